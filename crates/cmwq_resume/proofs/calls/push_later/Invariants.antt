use Rattle.cmwq_resume.specs.Common.{◌≡◌, ◌++◌, map, take}
use Rattle.cmwq_resume.specs.Leavings.{later_after}
use Rattle.cmwq_resume.proofs.calls.push_later.Given as goal

abbrev pub invariant-loop-booking : goal.invariant-loop-booking
invariant-loop-booking l = (l.calls).items
    ≡ (l.initial.calls).items ++ map (later_after l.time) (take l.booking-index l.bookings)
