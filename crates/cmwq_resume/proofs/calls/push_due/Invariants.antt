use Rattle.cmwq_resume.specs.Common.{◌≡◌, ◌++◌, map, take}
use Rattle.cmwq_resume.specs.Resume.{due_call}
use Rattle.cmwq_resume.proofs.calls.push_due.Given as goal

abbrev pub invariant-loop-booking : goal.invariant-loop-booking
invariant-loop-booking l = (l.calls).items
    ≡ (l.initial.calls).items ++ map due_call (take l.booking-index l.bookings)
