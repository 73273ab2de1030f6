use Rattle.cmwq_plain.specs.Common.{◌≡◌, max_active}
use Rattle.cmwq_plain.specs.Past.{upto}
use Rattle.cmwq_plain.proofs.width.max_active.Given as goal

abbrev pub invariant-loop-k : goal.invariant-loop-k
invariant-loop-k l = l.width ≡ max_active l.shape (upto l.past l.k) l.queue
