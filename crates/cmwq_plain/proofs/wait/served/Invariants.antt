use Rattle.cmwq_plain.specs.Common.{◌≡◌, serving_from}
use Rattle.cmwq_plain.specs.Past.{upto}
use Rattle.cmwq_plain.proofs.wait.served.Given as goal

abbrev pub invariant-loop-k : goal.invariant-loop-k
invariant-loop-k l = l.found ≡ serving_from (upto l.past l.k) l.queue l.number
