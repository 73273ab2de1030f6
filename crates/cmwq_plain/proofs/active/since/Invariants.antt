use Rattle.std.proofs.Common.{◌≡◌}
use Rattle.cmwq_plain.specs.Past.{upto}
use Rattle.cmwq_plain.specs.Earliest.{earliest_since}
use Rattle.cmwq_plain.proofs.active.since.Given as goal

abbrev pub invariant-loop-k : goal.invariant-loop-k
invariant-loop-k l = l.found ≡ earliest_since l.shape (upto l.past l.k) l.queueing
