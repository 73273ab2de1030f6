use Rattle.cmwq_plain.specs.Common.{◌≡◌, find, is_unstarted}
use Rattle.cmwq_plain.specs.Past.{open_upto}
use Rattle.cmwq_plain.proofs.queueings.unstarted.Given as goal

abbrev pub invariant-loop-k : goal.invariant-loop-k
invariant-loop-k l = l.found ≡ find (is_unstarted l.past l.item) (open_upto l.past l.k)
