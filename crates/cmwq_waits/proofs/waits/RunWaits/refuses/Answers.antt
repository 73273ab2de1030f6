use Rattle.std.proofs.Common.{◌∙◌, ap, subst, sym}
use Rattle.cmwq_core.specs.History.{past_in}
use Rattle.cmwq_waits.specs.Begun.{Registry}
use Rattle.cmwq_waits.specs.HeldUp.{AreWaiting}
use Rattle.cmwq_waits.specs.Refused.{AreApart}
use Rattle.cmwq_waits.proofs.Begun.{waits_are_apart, waits_are_waiting}
use Rattle.cmwq_waits.proofs.waits.RunWaits.refuses.Goals as goal

pub refuses-requires-clause-waiting : goal.refuses-requires-clause-waiting
refuses-requires-clause-waiting c =
    let h = c.args.execution.now in
    subst (AreWaiting (past_in h))
    (sym (c.deref.ensures.value ∙ ap (λ (r : Registry). r.waits) c.self.view_is ∙ c.requires.waits.waits))
    (waits_are_waiting c.args.self.now.first h.layout (past_in h) c.len-legal.ensures.legal)

pub refuses-requires-clause-apart : goal.refuses-requires-clause-apart
refuses-requires-clause-apart c =
    let h = c.args.execution.now in
    subst AreApart
    (sym (c.deref.ensures.value ∙ ap (λ (r : Registry). r.waits) c.self.view_is ∙ c.requires.waits.waits))
    (waits_are_apart c.args.self.now.first h.layout (past_in h) c.len-legal.ensures.legal)
