use Rattle.std.proofs.Common.{◌≡◌, ◌≤◌, drop}
use Rattle.cmwq_text.specs.Numbers.{digits_from}
use Rattle.cmwq_text.proofs.number.digits_of.Given as goal

-- what was read so far, and the digits that are left, stand for the same as all digits
abbrev pub invariant-loop-digit : goal.invariant-loop-digit
invariant-loop-digit l =
    (l.value ≤ l.limit) × (digits_from l.limit l.value (drop l.digit-index l.digits) ≡ digits_from l.limit 0 l.digits)
