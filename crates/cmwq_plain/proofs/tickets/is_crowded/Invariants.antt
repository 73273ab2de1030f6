use Rattle.cmwq_plain.specs.Common.{◌≡◌, ◌≤◌, count_by, is_held_by}
use Rattle.cmwq_plain.specs.Past.{unended_upto}
use Rattle.cmwq_plain.proofs.tickets.is_crowded.Given as goal

abbrev pub invariant-loop-k : goal.invariant-loop-k
invariant-loop-k l = (l.count ≡ count_by (is_held_by l.who) (unended_upto l.past l.k)) × (l.count ≤ l.k)
