use Rattle.cmwq_plain.specs.Common.{◌≡◌, ◌*◌, ◌≤◌, now}
use Rattle.cmwq_plain.specs.Past.{upto}
use Rattle.cmwq_plain.proofs.tally.now.Given as goal

abbrev pub invariant-loop-number : goal.invariant-loop-number
invariant-loop-number l = (l.total ≡ now (upto l.past l.number)) × (l.total ≤ 4294967295 * l.number)
