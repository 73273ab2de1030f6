use Rattle.cmwq_key.specs.Keys.{told_booking}
use Rattle.cmwq_key.proofs.Coding.{list_goes_on}
use Rattle.cmwq_key.proofs.key.opened.push_all_booked.Goals as goal

pub loop-booking-preserved : goal.loop-booking-preserved
loop-booking-preserved c =
    list_goes_on (told_booking c.args.numbered.now) c.args.all.now _ _ _ _ _ c.loop-booking.booking-index
    c.loop-booking-test.true c.loop-booking.invariant
    c.in_ok-push_booking.ensures
