use Rattle.cmwq_plain.specs.Common.{◌≡◌, ◌≤◌, count_by, has_not_started}
use Rattle.cmwq_plain.specs.Past.{open_upto}
use Rattle.cmwq_plain.proofs.room.count_unstarted.Given as goal

abbrev pub invariant-loop-k : goal.invariant-loop-k
invariant-loop-k l = (l.count ≡ count_by (has_not_started l.past) (open_upto l.past l.k)) × (l.count ≤ l.k)
