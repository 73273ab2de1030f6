use Rattle.std.proofs.Common.{◌≡◌, ◌≤◌, length}
use Rattle.cmwq_plain.specs.Past.{unended_upto}
use Rattle.cmwq_plain.proofs.room.count_unended.Given as goal

abbrev pub invariant-loop-k : goal.invariant-loop-k
invariant-loop-k l = (l.count ≡ length (unended_upto l.past l.k)) × (l.count ≤ l.k)
