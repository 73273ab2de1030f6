use Rattle.cmwq_refinement.proofs.TimerSteps.{no_timers_at_first, rows_for_items, timers_are_due_as_booked}
use Rattle.cmwq_refinement.proofs.TimerSteps.{bookings_set_timers, settled_timers_are_taken_back, others_keep_timers}
use Rattle.cmwq_refinement.proofs.BookedOn.{timers_stand_on_queues}
use Rattle.cmwq_refinement.proofs.TimerMay.{timers_refine, timers_may_be_set}
use Rattle.cmwq_refinement.proofs.FirstDue.{entries_apply_to_timers, first_timer_is_first_due, no_timer_is_none_due}
use Rattle.cmwq_refinement.proofs.timers.timers_refine.Goals as goal

ruleset history = (
  no_timers_at_first,
  bookings_set_timers,
  settled_timers_are_taken_back,
  others_keep_timers,
  timers_refine,
  entries_apply_to_timers,
  timers_may_be_set,
)

ruleset asked =
    (rows_for_items, timers_are_due_as_booked, timers_stand_on_queues, first_timer_is_first_due, no_timer_is_none_due)

pub returns : goal.returns
returns c = assumption (history, asked)
