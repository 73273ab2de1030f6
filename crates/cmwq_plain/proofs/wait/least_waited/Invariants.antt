use Rattle.cmwq_plain.specs.Common.{◌≡◌, find, holds_up}
use Rattle.cmwq_plain.specs.Past.{open_upto}
use Rattle.cmwq_plain.proofs.wait.least_waited.Given as goal

abbrev pub invariant-loop-k : goal.invariant-loop-k
invariant-loop-k l = l.found ≡ find (holds_up l.past l.number l.call) (open_upto l.past l.k)
