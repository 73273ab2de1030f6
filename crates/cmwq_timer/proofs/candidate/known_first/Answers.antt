use Rattle.std.proofs.Common.{sym, ◌∙◌}
use Rattle.cmwq_timer.proofs.Soonest.{first_stays, written_first}
use Rattle.cmwq_timer.proofs.candidate.known_first.Goals as goal

pub returns-then-comes_before : goal.returns-then-comes_before
returns-then-comes_before c old new lo hi at written from below first =
    written_first old new lo hi at c.args.was c.args.now c.in-Some.kept written from below (rw c.in-Some.is at first)
    (sym c.comes_before.ensures ∙ c.if-comes_before.true)

pub returns-else-is_lost : goal.returns-else-is_lost
returns-else-is_lost c old new lo hi at written from below first =
    rw c.in-Some.is
    (first_stays old new lo hi at c.args.was c.args.now c.in-Some.kept written (rw c.in-Some.is at first)
    (c.is_lost.ensures c.if-is_lost.false) (sym c.comes_before.ensures ∙ c.if-comes_before.false))
