use Rattle.std.proofs.Common.{◌∙◌, ap, subst, sym}
use Rattle.cmwq_core.specs.History.{History, past_in}
use Rattle.cmwq_waits.specs.HeldUp.{AreWaiting}
use Rattle.cmwq_waits.specs.Refused.{AreApart}
use Rattle.cmwq_play.proofs.WhoWaits.{they_are_apart, they_wait}
use Rattle.cmwq_play.proofs.waiting.is_refused.Goals as goal

pub refuses-requires-clause-waiting : goal.refuses-requires-clause-waiting
refuses-requires-clause-waiting c =
    let h = c.args.machine.now in
    subst (λ (g : History). AreWaiting (past_in g) c.note_all.new.waits) (sym c.execution.ensures)
    (subst (AreWaiting (past_in h)) (sym c.in_ok-note_all.ensures)
    (they_wait h c.args.workers.now c.entries-legal.ensures.legal))

pub refuses-requires-clause-apart : goal.refuses-requires-clause-apart
refuses-requires-clause-apart c =
    subst AreApart (sym c.in_ok-note_all.ensures) (they_are_apart c.args.machine.now c.args.workers.now)
