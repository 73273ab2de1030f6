use Rattle.cmwq_plain.specs.Common.{◌≡◌, find, is_of}
use Rattle.cmwq_plain.specs.Past.{open_upto}
use Rattle.cmwq_plain.proofs.queueings.is_item_open.Given as goal

abbrev pub invariant-loop-k : goal.invariant-loop-k
invariant-loop-k l = l.found ≡ find (is_of l.item) (open_upto l.past l.k)
