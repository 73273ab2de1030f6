use Rattle.cmwq_plain.specs.Common.{◌≡◌, is_finished}
use Rattle.cmwq_plain.specs.Past.{upto}
use Rattle.cmwq_plain.proofs.fate.is_finished.Given as goal

abbrev pub invariant-loop-k : goal.invariant-loop-k
invariant-loop-k l = l.finished ≡ is_finished (upto l.past l.k) l.number
