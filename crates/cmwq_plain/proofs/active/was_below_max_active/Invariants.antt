use Rattle.cmwq_plain.specs.Common.{◌≡◌, was_below_max_active}
use Rattle.cmwq_plain.specs.Past.{upto}
use Rattle.cmwq_plain.proofs.active.was_below_max_active.Given as goal

abbrev pub invariant-loop-k : goal.invariant-loop-k
invariant-loop-k l = l.had ≡ was_below_max_active l.shape (upto l.past l.k) l.queueing
