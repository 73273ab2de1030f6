use Rattle.cmwq_plain.specs.Common.{◌≡◌, booking}
use Rattle.cmwq_plain.specs.Past.{upto}
use Rattle.cmwq_plain.proofs.bookings.booking.Given as goal

abbrev pub invariant-loop-k : goal.invariant-loop-k
invariant-loop-k l = l.standing ≡ booking (upto l.past l.k) l.item
