use Rattle.std.proofs.Common.{◌≡◌, ◌∷◌, ◌++◌, length, take}
use Rattle.std.specs.List.{flat_map}
use Rattle.cmwq_key.specs.Keys.{told_booking}
use Rattle.cmwq_key.specs.Codes.{codes}
use Rattle.cmwq_key.proofs.key.opened.push_all_booked.Given as goal

abbrev pub invariant-loop-booking : goal.invariant-loop-booking
invariant-loop-booking l = l.key.items
    ≡ l.fn.key.items ++ codes (length l.all ∷ flat_map (told_booking l.numbered) (take l.booking-index l.all))
