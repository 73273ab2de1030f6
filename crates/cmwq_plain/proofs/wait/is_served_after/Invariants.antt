use Rattle.cmwq_plain.specs.Common.{◌≡◌, ◌≤◌, count_by, is_older_flush}
use Rattle.cmwq_plain.specs.Past.{unended_upto}
use Rattle.cmwq_plain.proofs.wait.is_served_after.Given as goal

abbrev pub invariant-loop-k : goal.invariant-loop-k
invariant-loop-k l = (l.count ≡ count_by (is_older_flush l.queue l.number) (unended_upto l.past l.k)) × (l.count ≤ l.k)
