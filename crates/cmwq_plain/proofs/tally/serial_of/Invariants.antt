use Rattle.cmwq_plain.specs.Common.{◌≡◌, ◌≤◌, serial_of}
use Rattle.cmwq_plain.specs.Past.{upto}
use Rattle.cmwq_plain.proofs.tally.serial_of.Given as goal

abbrev pub invariant-loop-number : goal.invariant-loop-number
invariant-loop-number l = (l.serial ≡ serial_of (upto l.past l.number) l.who) × (l.serial ≤ l.number)
