use Rattle.std.proofs.Common.{◌≡◌, ◌++◌, map, take}
use Rattle.cmwq_model.specs.Prelude.{number_booked}
use Rattle.cmwq_key.proofs.key.numbered.push_bookings.Given as goal

abbrev pub invariant-loop-booking : goal.invariant-loop-booking
invariant-loop-booking l = l.numbers.items ≡ l.fn.numbers.items ++ map number_booked (take l.booking-index l.bookings)
