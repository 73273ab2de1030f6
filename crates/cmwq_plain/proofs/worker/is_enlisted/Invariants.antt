use Rattle.cmwq_plain.specs.Common.{◌≡◌, is_enlisted}
use Rattle.cmwq_plain.specs.Past.{upto}
use Rattle.cmwq_plain.proofs.worker.is_enlisted.Given as goal

abbrev pub invariant-loop-k : goal.invariant-loop-k
invariant-loop-k l = l.enlisted ≡ is_enlisted (upto l.past l.k) l.worker
