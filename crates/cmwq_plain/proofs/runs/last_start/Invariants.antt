use Rattle.cmwq_plain.specs.Common.{◌≡◌, last_start}
use Rattle.cmwq_plain.specs.Past.{upto}
use Rattle.cmwq_plain.proofs.runs.last_start.Given as goal

abbrev pub invariant-loop-k : goal.invariant-loop-k
invariant-loop-k l = l.last ≡ last_start (upto l.past l.k) l.worker
