use Rattle.std.proofs.Common.{◌∙◌, ap, arith, length, subst, sym}
use Rattle.cmwq_core.specs.History.{past_in}
use Rattle.cmwq_waits.specs.HeldUp.{AreWaiting}
use Rattle.cmwq_waits.specs.Refused.{AreApart}
use Rattle.cmwq_board.specs.Lent.{AreLent}
use Rattle.cmwq_board.proofs.WaitingRuns.{waits_are_apart, waits_are_few, waits_are_waiting}
use Rattle.cmwq_board.proofs.runs.Runs.refuses.Goals as goal

pub refuses-requires-clause-waiting : goal.refuses-requires-clause-waiting
refuses-requires-clause-waiting c =
    let h = c.args.execution.now in
    subst (AreWaiting (past_in h)) (sym (c.deref.ensures.value ∙ c.fill.ensures.items))
    (waits_are_waiting h.layout (past_in h) c.args.lent.now c.len-legal.ensures.legal
    (subst (λ s. AreLent s (past_in h) c.args.lent.now) (sym c.requires.layout) c.requires.lent))

pub refuses-requires-clause-apart : goal.refuses-requires-clause-apart
refuses-requires-clause-apart c =
    let h = c.args.execution.now in
    subst AreApart (sym (c.deref.ensures.value ∙ c.fill.ensures.items))
    (waits_are_apart h.layout (past_in h) c.args.lent.now c.len-legal.ensures.legal c.requires.once)

pub refuses-requires-clause-room : goal.refuses-requires-clause-room
refuses-requires-clause-room c =
    let listed = ap length (c.deref.ensures.value ∙ c.fill.ensures.items) in
    let few = waits_are_few (past_in c.args.execution.now) c.args.lent.now in
    omega (arith, listed, few, c.fill.ensures.capacity, c.self.invariant, c.self.view_is, c.requires.room)
