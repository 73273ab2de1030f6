-- What the files of this crate name from outside it, in one import.
pub use Rattle.std.proofs.Common.{Bool, IsTrue, List, None, Option, Some, [], ap, append-nil, ap₂, arith, cond}
pub use Rattle.std.proofs.Common.{count_by, drop, false, filter, find, get_or, inl, inr, is_some, length, length-append}
pub use Rattle.std.proofs.Common.{map, max, min, nat_le, nat_lt, not, option_to_list, refl, replicate, subst, suc, sym}
pub use Rattle.std.proofs.Common.{take, true, w64, zero, ℕ, ⊎_elim, ◌&&◌, ◌*◌, ◌++◌, ◌+◌, ◌-◌, ◌<◌, ◌==◌, ◌^◌, ◌||◌}
pub use Rattle.std.proofs.Common.{◌↔◌, ◌∙◌, ◌∷◌, ◌≡◌, ◌≢◌, ◌≤◌, ◌⊎◌}
pub use Rattle.std.proofs.lemmas.Bool.{and_parts, cases_lt, eq-eqb, eqb-true, false_from_ne_true, le-ltb, leb-true}
pub use Rattle.std.proofs.lemmas.Bool.{lt-ltb, ltb-true, not-false, not-true}
pub use Rattle.std.proofs.lemmas.List.{drop_more, get_or-map, get_or-replicate, get_or-set_other, get_or_default}
pub use Rattle.std.proofs.lemmas.List.{length-map, length-replicate, length-reverse, length-set, reverse-append}
pub use Rattle.std.proofs.lemmas.List.Elements.{All-from_recursion, All-get_or}
pub use Rattle.std.proofs.lemmas.List.Sums.{count_by-le-length, length-filter}
pub use Rattle.std.proofs.lemmas.Option.{same_Some}
pub use Rattle.std.specs.Int.{bit_at}
pub use Rattle.std.specs.List.{AllByRecursion, list_any}
pub use Rattle.std.specs.Option.{option_map_or}
pub use Rattle.std.specs.Prelude.{All, Contains, IfNone, IfSome, if◌then◌else◌, option_and_then, option_map, slice_get}
pub use Rattle.std.specs.Prelude.{slice_index, slice_index_or, slice_set}
pub use Rattle.std.specs.Vec.{vec_capacity}
pub use Rattle.cmwq_flush.specs.FlushBook.{CanOpen, FlushBook, IsReady, flush_tickets, new_book}
pub use Rattle.cmwq_inflight.specs.Flights.{Flight, flight_at, no_flight, open_count}
pub use Rattle.cmwq_lemmas.proofs.Filters.{filter_none, filter_same, none_found}
pub use Rattle.cmwq_lemmas.proofs.Lists.{All_filter, All_map, count_by-cons, count_by-none}
pub use Rattle.cmwq_lemmas.proofs.Members.{In, all_in, filter_in, found, in_contained, in_filter, in_right, of_in}
pub use Rattle.cmwq_model.specs.Prelude.{Layout, booking, booking_of, due_in, ends_destroy, entry_for, fits}
pub use Rattle.cmwq_model.specs.Prelude.{frozen_after, has_number, has_numbers, has_time, is_active, is_at}
pub use Rattle.cmwq_model.specs.Prelude.{is_below_max_active, is_by, is_crowded, is_destroy_of, is_done, is_draining}
pub use Rattle.cmwq_model.specs.Prelude.{is_held_by, is_item_open, is_layout, is_live, is_of, is_ticket, is_unstarted}
pub use Rattle.cmwq_model.specs.Prelude.{item_at, item_number, item_of, item_run, item_runs, layout_of, most_callers}
pub use Rattle.cmwq_model.specs.Prelude.{most_cpus, most_room, most_time, most_workers, newly_active, next, no_queue}
pub use Rattle.cmwq_model.specs.Prelude.{number_finished, opening, past_of, pool_at, queue_at, queue_of, queueing_at}
pub use Rattle.cmwq_model.specs.Prelude.{run, runs_elsewhere, same_pool, same_who, serial_of, sets_max, settles}
pub use Rattle.cmwq_model.specs.Prelude.{still_open, ticket_of, tickets, ticks_told, unended_tickets}
pub use Rattle.cmwq_model.specs.Prelude.{unstarted_queueing, waits_for, width_set, width_told}
unfoldable pub use Rattle.cmwq_model.specs.Prelude.{IsLegal, is_frozen, is_gone, max_active, now, owed, queueings}
unfoldable pub use Rattle.cmwq_model.specs.Prelude.{width}
pub use Rattle.cmwq_model.specs.declared.call.Call.{Call}
pub use Rattle.cmwq_model.specs.declared.entry.Entry.{Entry}
pub use Rattle.cmwq_model.specs.declared.id.ItemId.{ItemId}
pub use Rattle.cmwq_model.specs.declared.id.PoolId.{PoolId}
pub use Rattle.cmwq_model.specs.declared.id.Who.{Who}
pub use Rattle.cmwq_model.specs.declared.id.Who.TheVariants.{Caller, Worker}
pub use Rattle.cmwq_model.specs.declared.record.Booking.{Booking}
pub use Rattle.cmwq_model.specs.declared.record.Queueing.{Queueing}
pub use Rattle.cmwq_model.specs.declared.record.Start.{Start}
pub use Rattle.cmwq_model.specs.declared.record.Ticket.{Ticket}
pub use Rattle.cmwq_model.specs.declared.reply.Reply.{Reply}
pub use Rattle.cmwq_model.specs.declared.shape.QueueShape.{QueueShape}
pub use Rattle.cmwq_pool.specs.PoolState.{PoolState, may_add, new_pool_state, next_task, pool_with_task}
pub use Rattle.cmwq_pool.specs.PoolState.{pool_without_task}
pub use Rattle.cmwq_pool.specs.Pools.{lists_item, may_list, no_pool, pool_numbered}
pub use Rattle.cmwq_pool.specs.Slots.{slot_at, slot_may_retire, slots_enlisted_by, slots_runnable}
pub use Rattle.cmwq_pool.specs.declared.task.Task.{Task}
pub use Rattle.cmwq_pwq.proofs.Passes.{count_set, on_itself, on_parts, place_inside}
pub use Rattle.cmwq_pwq.specs.Pwqs.{AreBehind, AreBelowMaxActive, ArePlaced, IsBehind, IsPassed, IsPlaced, IsPlacedIf}
pub use Rattle.cmwq_pwq.specs.Pwqs.{MayEndInPwqs, MayOpenInPwqs, Passes, PwqState, count_at, count_of_same_pwq}
pub use Rattle.cmwq_pwq.specs.Pwqs.{is_other_waiting, is_waiting, new_pwq_state, place_of, pwqs_after_end}
pub use Rattle.cmwq_pwq.specs.Pwqs.{pwqs_after_opening, pwqs_without_open, width_by}
pub use Rattle.cmwq_refinement.proofs.FirstDue.{first_timer_is_first_due, in_standing, no_timer_is_none_due}
pub use Rattle.cmwq_refinement.proofs.FirstDue.{standing_fits}
pub use Rattle.cmwq_refinement.proofs.FlightReads.{open_are_in_flight}
pub use Rattle.cmwq_refinement.proofs.FlightRefine.{entries_apply_to_flights, flights_for_items, flights_refine}
pub use Rattle.cmwq_refinement.proofs.FlightRefine.{no_flights_at_first}
pub use Rattle.cmwq_refinement.proofs.FlushEnds.{ended_ready}
pub use Rattle.cmwq_refinement.proofs.FlushReads.{drains_wait_for_least_open, flushes_wait_for_least_open}
pub use Rattle.cmwq_refinement.proofs.FlushReads.{ready_flushes_wait_for_nothing, unended_flushes_stand}
pub use Rattle.cmwq_refinement.proofs.FlushSteps.{flushes_at_first, flushes_refine}
pub use Rattle.cmwq_refinement.proofs.ItemNumberSteps.{numbers_at_first, numbers_refine}
pub use Rattle.cmwq_refinement.proofs.PlacesFit.{open_are_there, open_there, opened_are_there, unended_fit}
pub use Rattle.cmwq_refinement.proofs.PoolNext.{next_task_is, nexts_are_next}
pub use Rattle.cmwq_refinement.proofs.PoolReads.{idle_retire_alike, runnables_are_runnable, slot_is, slots_are_workers}
pub use Rattle.cmwq_refinement.proofs.PoolReads.{slots_for_workers, starts_enlist_alike}
pub use Rattle.cmwq_refinement.proofs.PoolSteps.{pools_at_first, pools_refine}
pub use Rattle.cmwq_refinement.proofs.TicketsRefine.{cancelling_alike, crowded_alike, destroyed_alike, draining_alike}
pub use Rattle.cmwq_refinement.proofs.TicketsRefine.{entries_apply_to_tickets, no_tickets_at_first, rows_for_callers}
pub use Rattle.cmwq_refinement.proofs.TicketsRefine.{tickets_found_alike, tickets_of_any_caller, tickets_refine}
pub use Rattle.cmwq_refinement.proofs.TimerSteps.{no_timers_at_first, row_at, rows_for_items}
pub use Rattle.cmwq_refinement.specs.ItemNumbers.{MayEndInNumbers, MayOpenInNumbers, numbers_after_end}
pub use Rattle.cmwq_refinement.specs.ItemNumbers.{numbers_after_opening, numbers_of}
pub use Rattle.cmwq_refinement.specs.ByNumber.{number_of_queueing, ticket_given}
pub use Rattle.cmwq_refinement.specs.Flights.{MayEndInFlight, MayOpenInFlight, MayStartInFlight, flight_of}
pub use Rattle.cmwq_refinement.specs.Flights.{flights_after, flights_after_end, flights_after_opening}
pub use Rattle.cmwq_refinement.specs.Flights.{flights_after_start, flights_of, queueing_started, starting}
pub use Rattle.cmwq_refinement.specs.FlushBooks.{AreFlushes, MayBeDoneInFlushes, MayBeginInFlushes, MayEndInFlushes}
pub use Rattle.cmwq_refinement.specs.FlushBooks.{MayOpenInFlushes, flushes_after_begun, flushes_after_done}
pub use Rattle.cmwq_refinement.specs.FlushBooks.{flushes_after_end, flushes_after_opening, flushes_after_queueings}
pub use Rattle.cmwq_refinement.specs.Pools.{MayAllBeAdded, MayReplyInPool, pool_after_activation, pool_after_cancel}
pub use Rattle.cmwq_refinement.specs.Pools.{pool_after_worker, pool_before_activation, pool_of, run_task, task_for}
pub use Rattle.cmwq_refinement.specs.Tickets.{MayEndTicket, MayGiveTicket, tickets_after_end, tickets_after_giving}
pub use Rattle.cmwq_refinement.specs.Tickets.{tickets_of}
pub use Rattle.cmwq_refinement.specs.Timers.{HoldsDraining, MayBeSet, item_due, timer_for, timer_row}
pub use Rattle.cmwq_refinement.specs.Timers.{timers_after_settling, timers_of}
pub use Rattle.cmwq_theory_steps.proofs.EndsAsTold.{ends_as_told, runs_are_queueings}
pub use Rattle.cmwq_theory_steps.proofs.ItemRuns.{runs_are_items, same_worker-true}
pub use Rattle.cmwq_theory_steps.proofs.RunsActive.{found_known, found_number, run_is_active}
pub use Rattle.cmwq_theory_steps.proofs.StateSteps.{serials_go_on, time_goes_on}
pub use Rattle.cmwq_theory_steps.proofs.Waiting.{candidates_are, newly_are, waiting_goes_on}
pub use Rattle.cmwq_theory_steps.specs.Activations.{is_in, stay_count, waits}
pub use Rattle.cmwq_theory_steps.specs.Endings.{ending, is_ended, survives}
pub use Rattle.cmwq_theory_steps.specs.Histories.{one}
pub use Rattle.cmwq_theory_steps.specs.ItemQueueings.{ended_by, queueing_run}
pub use Rattle.cmwq_theory_steps.specs.Places.{is_on, open_on}
unfoldable pub use Rattle.cmwq_theory_steps.specs.Places.{active_count}
pub use Rattle.cmwq_theory_steps.specs.TicketSteps.{ticket_asked, ticket_ended}
pub use Rattle.cmwq_theory_steps.specs.Waiting.{candidates, ends_active_on, has_none, waiting_queueings}
pub use Rattle.cmwq_ticket.specs.Rows.{any_cancels, any_destroys, any_drains, any_ticket}
pub use Rattle.cmwq_timer.specs.Rows.{IsFirstToFire, NoneMayFire, TimerRows, any_timer_on, timer_of}
