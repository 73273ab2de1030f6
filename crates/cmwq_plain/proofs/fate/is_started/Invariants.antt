use Rattle.cmwq_plain.specs.Common.{◌≡◌, is_started}
use Rattle.cmwq_plain.specs.Past.{upto}
use Rattle.cmwq_plain.proofs.fate.is_started.Given as goal

abbrev pub invariant-loop-k : goal.invariant-loop-k
invariant-loop-k l = l.started ≡ is_started (upto l.past l.k) l.number
