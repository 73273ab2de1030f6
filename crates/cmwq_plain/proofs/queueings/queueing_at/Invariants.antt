use Rattle.cmwq_plain.specs.Common.{◌≡◌, find, has_number, queueings}
use Rattle.cmwq_plain.specs.Past.{upto}
use Rattle.cmwq_plain.proofs.queueings.queueing_at.Given as goal

abbrev pub invariant-loop-k : goal.invariant-loop-k
invariant-loop-k l = l.found ≡ find (has_number l.number) (queueings (upto l.past l.k))
