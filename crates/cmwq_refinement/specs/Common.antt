-- What the files of this crate name from outside it, in one import.
pub use Rattle.std.proofs.Common.{Bool, IsTrue, List, None, Option, Some, [], add-one, ap, append-nil, ap₂, arith, cond}
pub use Rattle.std.proofs.Common.{count_by, false, filter, find, get_or, inl, inr, is_some, length, map, nat_le, nat_lt}
pub use Rattle.std.proofs.Common.{not, option_to_list, refl, replicate, set, subst, suc, sym, true, zero, ℕ, ⊎_elim}
pub use Rattle.std.proofs.Common.{◌&&◌, ◌++◌, ◌+◌, ◌<◌, ◌==◌, ◌||◌, ◌↔◌, ◌∙◌, ◌∷◌, ◌≡◌, ◌≢◌, ◌≤◌, ◌⊎◌}
pub use Rattle.std.proofs.lemmas.Bool.{and_parts, cases_eq, cases_lt, eq-eqb, eqb-true, false_from_ne_true, false≢true}
pub use Rattle.std.proofs.lemmas.Bool.{le-leb, le-ltb, leb-false, leb-true, lt-leb, lt-ltb, ltb-false, ltb-true, ne_eqb}
pub use Rattle.std.proofs.lemmas.Bool.{not-false, not-true, or_cases, or_parts}
pub use Rattle.std.proofs.lemmas.Bool.Decides.{nat_tests}
pub use Rattle.std.proofs.lemmas.List.{append_assoc, get_or-set_other, get_or-set_same, get_or_past, length-append}
pub use Rattle.std.proofs.lemmas.List.{length-map, length-set, map-append, map_push}
pub use Rattle.std.proofs.lemmas.List.Elements.{All-from_recursion, filter-append, filter_map-append}
pub use Rattle.std.proofs.lemmas.List.Elements.{recursion_from_All}
pub use Rattle.std.proofs.lemmas.List.FromFn.{fill_by_all, get_or-map-range_with_len, length-map-range_with_len}
pub use Rattle.std.proofs.lemmas.List.FromFn.{length-range_with_len, sum_by-map-range_with_len_more}
pub use Rattle.std.proofs.lemmas.List.Sums.{count_by-le-length, length-filter, sum_by-cons}
pub use Rattle.std.proofs.lemmas.Option.{same_Some}
pub use Rattle.std.specs.List.{AllByRecursion, filter_map, list_all, list_any, range_with_len, sum_by}
pub use Rattle.std.specs.Option.{option_map_or, option_or}
pub use Rattle.std.specs.Prelude.{All, Contains, IsSome, MatchOption, flat_map, fold, if◌then◌else◌, min}
pub use Rattle.std.specs.Prelude.{option_and_then, option_map, slice_get, slice_set, ◌*◌}
pub use Rattle.cmwq_flush.specs.Colouring.{IsServing}
pub use Rattle.cmwq_flush.specs.FlushBook.{CanOpen, FlushBook, flush_from, flush_tickets, flushes_with_open}
pub use Rattle.cmwq_flush.specs.FlushBook.{flushes_with_wait, flushes_without_open, flushes_without_wait, new_book}
pub use Rattle.cmwq_flush.specs.FlushBook.{serve_oldest, served_of, served_with_oldest, without_oldest}
pub use Rattle.cmwq_flush.specs.ItemNumbers.{IsItemReady, is_up_to, numbers_open}
pub use Rattle.cmwq_flush.specs.Numbers.{is_other_number, without}
pub use Rattle.cmwq_flush.specs.Served.{has_ticket, is_other_flush, tickets_of_served}
pub use Rattle.cmwq_flush.specs.declared.served.Served.{Served}
pub use Rattle.cmwq_inflight.specs.Flights.{Flight, flight_at, flights_with_open, flights_with_run}
pub use Rattle.cmwq_inflight.specs.Flights.{flights_without_open, has_unstarted, no_flight, open_count, with_flight}
pub use Rattle.cmwq_inflight.specs.Flights.{with_started, with_unstarted, without_run}
pub use Rattle.cmwq_lemmas.proofs.Filters.{count_by-wider, filter_same, filter_twice, none_found}
pub use Rattle.cmwq_lemmas.proofs.Lists.{All_append, All_each, All_filter, All_map, count_by-cons, count_by-filter}
pub use Rattle.cmwq_lemmas.proofs.Lists.{find_none}
pub use Rattle.cmwq_lemmas.proofs.Truth.{and_false, and_true, flip, or_true}
pub use Rattle.cmwq_model.specs.Prelude.{Layout, asleep_after, booked_by, booking_of, cpu_for, drains, due_in}
pub use Rattle.cmwq_model.specs.Prelude.{end_of_ticket, ends, enlists, finished_answer, finishes, fired_answer, flushes}
pub use Rattle.cmwq_model.specs.Prelude.{gives_ticket, has_number, has_numbers, has_place, has_run, has_spare}
pub use Rattle.cmwq_model.specs.Prelude.{index_enlisted, indices, is_active, is_at, is_being_destroyed, is_booked_on}
pub use Rattle.cmwq_model.specs.Prelude.{is_by, is_callers, is_cancel_sync_of, is_cancelling, is_crowded, is_destroy_of}
pub use Rattle.cmwq_model.specs.Prelude.{is_done, is_drain_of, is_draining, is_due_before, is_end_of, is_flush_of}
pub use Rattle.cmwq_model.specs.Prelude.{is_frozen, is_gone, is_held_by, is_holding, is_idle, is_in_pool, is_intensive}
pub use Rattle.cmwq_model.specs.Prelude.{is_layout, is_listed, is_live, is_occupied, is_of, is_of_item, is_older_flush}
pub use Rattle.cmwq_model.specs.Prelude.{is_open, is_other_idle, is_reserve, is_retired, is_served_after, is_soonest}
pub use Rattle.cmwq_model.specs.Prelude.{is_startable, is_started, is_ticket, is_unended, is_unstarted, is_within}
pub use Rattle.cmwq_model.specs.Prelude.{is_workers, item_at, item_called, item_fired, item_of, item_run, item_runs}
pub use Rattle.cmwq_model.specs.Prelude.{may_fire, may_make, newly_active, now, number_booked, number_cancelled}
pub use Rattle.cmwq_model.specs.Prelude.{number_finished, number_started, opening, opens, place_booked, place_called}
pub use Rattle.cmwq_model.specs.Prelude.{place_wanted, pool_at, queue_of, queued_at, queueing_at, replaces, run}
pub use Rattle.cmwq_model.specs.Prelude.{run_queue, runs_asleep, runs_awake, same_pool, same_who, settles, soonest}
pub use Rattle.cmwq_model.specs.Prelude.{standing_bookings, stands, start_in, start_of, starts, starts_item, still_open}
pub use Rattle.cmwq_model.specs.Prelude.{ticket_for, ticket_in, ticket_of, unended_tickets, unstarted_queueing}
pub use Rattle.cmwq_model.specs.Prelude.{waiting_for, waits_for, worker_at}
unfoldable pub use Rattle.cmwq_model.specs.Prelude.{IsLegal, answer, became_active, booking, bookings, destroy_answer}
unfoldable pub use Rattle.cmwq_model.specs.Prelude.{enlisted_by, finish_answer, first_due, is_asleep, is_enlisted}
unfoldable pub use Rattle.cmwq_model.specs.Prelude.{item_start, last_start, may_retire, next, queueings, retire_answer}
unfoldable pub use Rattle.cmwq_model.specs.Prelude.{runnable, serving_from, set_max_answer, take_answer, tickets}
unfoldable pub use Rattle.cmwq_model.specs.Prelude.{wait_answer, worklist}
pub use Rattle.cmwq_model.specs.declared.call.Call.{Call}
pub use Rattle.cmwq_model.specs.declared.entry.Entry.{Entry}
pub use Rattle.cmwq_model.specs.declared.id.ItemId.{ItemId}
pub use Rattle.cmwq_model.specs.declared.id.PoolId.{PoolId}
pub use Rattle.cmwq_model.specs.declared.id.QueueId.{QueueId}
pub use Rattle.cmwq_model.specs.declared.id.Who.{Who}
pub use Rattle.cmwq_model.specs.declared.id.Who.TheVariants.{Caller, Worker}
pub use Rattle.cmwq_model.specs.declared.id.WorkerId.{WorkerId}
pub use Rattle.cmwq_model.specs.declared.record.Booking.{Booking}
pub use Rattle.cmwq_model.specs.declared.record.Queueing.{Queueing}
pub use Rattle.cmwq_model.specs.declared.record.Start.{Start}
pub use Rattle.cmwq_model.specs.declared.record.Ticket.{Ticket}
pub use Rattle.cmwq_model.specs.declared.reply.Reply.{Reply}
pub use Rattle.cmwq_pool.specs.PoolState.{PoolState, is_other_task, may_add, new_pool_state, next_task, pool_with_task}
pub use Rattle.cmwq_pool.specs.PoolState.{pool_without_task, with_slot_again}
pub use Rattle.cmwq_pool.specs.Slots.{is_reserve_at, new_slot, no_slot, run_number, slot_asleep, slot_at, slot_awake}
pub use Rattle.cmwq_pool.specs.Slots.{slot_enlisted, slot_free, slot_retired, slot_running, slot_runs, slots_run_item}
pub use Rattle.cmwq_pool.specs.Slots.{with_enlisted, with_slot}
pub use Rattle.cmwq_pool.specs.declared.slot.Slot.{Slot}
pub use Rattle.cmwq_pool.specs.declared.task.Task.{Task}
pub use Rattle.cmwq_theory_steps.proofs.Rising.{open_rise, opening_number, queueings_below}
pub use Rattle.cmwq_theory_steps.proofs.Causes.{cause_of}
pub use Rattle.cmwq_theory_steps.proofs.Ended.{ends_which, one_ends, found_unstarted}
pub use Rattle.cmwq_theory_steps.proofs.Endings.{open_go_on}
pub use Rattle.cmwq_theory_steps.proofs.EndsAsTold.{ends_as_told, runs_are_queueings}
pub use Rattle.cmwq_theory_steps.proofs.Entries.{IsKnown, is_at-true, opening_item, queueings_known}
pub use Rattle.cmwq_theory_steps.proofs.Fresh.{finishes_run, not_started_yet, unstarted_is}
pub use Rattle.cmwq_theory_steps.proofs.ItemRuns.{before, item_run_started, last_start_cases, no_start, run_is}
pub use Rattle.cmwq_theory_steps.proofs.ItemRuns.{runs_are_items, same_worker-true, same_worker_itself, start_of_worker}
pub use Rattle.cmwq_theory_steps.proofs.ItemRuns.{starts_its_item, starts_known, starts_no_item}
pub use Rattle.cmwq_theory_steps.proofs.ItemSteps.{items_are_run, items_run_on, start_is}
pub use Rattle.cmwq_theory_steps.proofs.Limits.{two_for_each_item, two_of_an_item}
pub use Rattle.cmwq_theory_steps.proofs.OwedSteps.{by_itself, same_starter}
pub use Rattle.cmwq_theory_steps.proofs.Pools.{queued_where_it_runs, runs_are_in_pools, same_pool-true, started_was}
pub use Rattle.cmwq_theory_steps.proofs.Pools.{unstarted_alone}
pub use Rattle.cmwq_theory_steps.proofs.Reasons.{legal_fits, retire_reason, sleep_reason, ticket_reason, wake_reason}
pub use Rattle.cmwq_theory_steps.proofs.RunSteps.{last_started, no_end, workers_run_on}
pub use Rattle.cmwq_theory_steps.proofs.RunsActive.{found_known, found_number, listed_pool}
pub use Rattle.cmwq_theory_steps.proofs.Starts.{starts_next}
pub use Rattle.cmwq_theory_steps.proofs.StartsListed.{IsFound, StartsListed, queueing_at-older, queueings_found}
pub use Rattle.cmwq_theory_steps.proofs.StartsListed.{starts_listed}
pub use Rattle.cmwq_theory_steps.proofs.TicketSteps.{is_done_reply, one_ticket_ends, served_stay, tickets_go_on}
pub use Rattle.cmwq_theory_steps.proofs.TicketSteps.{unended_go_on}
pub use Rattle.cmwq_theory_steps.proofs.Worklist.{worklist_is}
pub use Rattle.cmwq_theory_steps.proofs.WorklistSteps.{opening_inert, worklists_go_on}
pub use Rattle.cmwq_theory_steps.specs.Activations.{is_in, is_left}
pub use Rattle.cmwq_theory_steps.specs.Endings.{ending, is_ended, survives}
pub use Rattle.cmwq_theory_steps.specs.ItemQueueings.{ended_by, of_item, queueing_run, still_unstarted}
pub use Rattle.cmwq_theory_steps.specs.RunSteps.{ends_run, run_after}
pub use Rattle.cmwq_theory_steps.specs.TicketSteps.{is_ended_by, is_kept, passes, ticket_asked, ticket_ended}
pub use Rattle.cmwq_ticket.specs.Rows.{TicketBook, TicketRows, any_ticket, comes_before, count, is_numbered, may_give}
pub use Rattle.cmwq_ticket.specs.Rows.{new_tickets, rows_with, rows_without, tickets_of_caller, tickets_with}
pub use Rattle.cmwq_ticket.specs.Rows.{tickets_without}
pub use Rattle.cmwq_timer.specs.Rows.{IsFirstToFire, MayFire, NoneMayFire, due_of, is_timer_on, timer_of}
pub use Rattle.cmwq_timer.specs.declared.timer.Timer.{Timer}
