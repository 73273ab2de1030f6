use Rattle.std.proofs.Common.{◌≡◌, ◌<◌, drop}
use Rattle.cmwq_names.specs.Named.{value_from}
use Rattle.cmwq_names.proofs.texts.value_of.Given as goal

-- what was read so far, and the digits that are left, stand for the same as all digits
abbrev pub invariant-loop-digit : goal.invariant-loop-digit
invariant-loop-digit l =
    (l.number < 65537) × (value_from l.number (drop l.digit-index l.digits) ≡ value_from 0 l.digits)
