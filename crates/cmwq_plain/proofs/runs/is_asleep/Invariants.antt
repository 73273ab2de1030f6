use Rattle.cmwq_plain.specs.Common.{◌≡◌, is_asleep}
use Rattle.cmwq_plain.specs.Past.{upto}
use Rattle.cmwq_plain.proofs.runs.is_asleep.Given as goal

abbrev pub invariant-loop-k : goal.invariant-loop-k
invariant-loop-k l = l.asleep ≡ is_asleep (upto l.past l.k) l.worker
