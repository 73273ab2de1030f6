use mathlib.Core.List.{IsPrefix}
use Rattle.cmwq_rt_journal.proofs.keep.drop_journal.Given as goal

abbrev pub invariant-loop : goal.invariant-loop
invariant-loop g l = (goal.iterator-loop g).can_next l.iterator' × (goal.iterator-loop g).is_finite l.iterator'
    × IsPrefix l.fn.journal.seen l.journal.seen
