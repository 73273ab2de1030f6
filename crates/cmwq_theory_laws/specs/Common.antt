-- What the files of this crate name from outside it, in one import.
pub use Rattle.std.proofs.Common.{Bool, List, None, Option, Some, [], ap, append-nil, append_assoc, ap₂, arith, cond}
pub use Rattle.std.proofs.Common.{count_by, false, filter, find, length, map, max, min, nat_le, nat_lt, not}
pub use Rattle.std.proofs.Common.{option_to_list, refl, reverse, subst, suc, sym, take, true, zero, ℕ, ◌&&◌, ◌*◌, ◌++◌}
pub use Rattle.std.proofs.Common.{◌+◌, ◌<◌, ◌==◌, ◌||◌, ◌∙◌, ◌∷◌, ◌≡◌, ◌≤◌}
pub use Rattle.std.proofs.Math.Bool.{and-false, or-false}
pub use Rattle.std.proofs.lemmas.Bool.{and_parts, eq-eqb, eqb-true, le-leb, leb-true, lt-ltb, ltb-true, or_parts}
pub use Rattle.std.proofs.lemmas.Bool.{or_right}
pub use Rattle.std.proofs.lemmas.Bool.Decides.{nat_tests}
pub use Rattle.std.proofs.lemmas.List.{length-map, length-reverse, length-take, map-append, reverse-append}
pub use Rattle.std.proofs.lemmas.List.{reverse-reverse}
pub use Rattle.std.proofs.lemmas.List.Elements.{All-from_recursion, filter-append, recursion_from_All}
pub use Rattle.std.proofs.lemmas.List.Folds.{list_any-append}
pub use Rattle.std.specs.List.{All, AllByRecursion, list_any, range_with_len}
unfoldable pub use Rattle.std.specs.List.{IsDistinct}
pub use Rattle.std.specs.Option.{option_map_or, option_or}
pub use Rattle.std.specs.Prelude.{IsTrue, fold, if◌then◌else◌, is_some, option_and_then, option_map}
pub use Rattle.cmwq_lemmas.proofs.Filters.{count_by-same, count_none, filter_same, find-filter, none_found}
pub use Rattle.cmwq_lemmas.proofs.Lists.{All_append, All_both, All_each, All_filter, All_map, All_unfilter}
pub use Rattle.cmwq_lemmas.proofs.Lists.{count_by-cons, count_by-filter, count_by-none, find_none}
pub use Rattle.cmwq_model.specs.Prelude.{IsCall, IsEntry, IsFirstWrong, IsReply, IsWho, Layout, Steps, Wants, booked_by}
pub use Rattle.cmwq_model.specs.Prelude.{booking_of, cancels_sync, destroys, drains, due_in, ends_destroy, entry_at}
pub use Rattle.cmwq_model.specs.Prelude.{entry_fits, entry_for, finishes, first_width, fits, frozen_after, gives_ticket}
pub use Rattle.cmwq_model.specs.Prelude.{greatest, has_number, has_numbers, has_room, has_run, has_time, holds_up}
pub use Rattle.cmwq_model.specs.Prelude.{indices, is_ahead, is_at, is_being_destroyed, is_below_max_active, is_booked}
pub use Rattle.cmwq_model.specs.Prelude.{is_booked_on, is_by, is_cancel_sync_of, is_cancelling, is_crowded}
pub use Rattle.cmwq_model.specs.Prelude.{is_destroy_of, is_done, is_drain_of, is_draining, is_enlisted, is_finished}
pub use Rattle.cmwq_model.specs.Prelude.{is_freezable, is_layout, is_listed, is_live, is_newly_active, is_of_item}
pub use Rattle.cmwq_model.specs.Prelude.{is_open, is_other_idle, is_pending, is_reserve, is_served_after, is_shut}
pub use Rattle.cmwq_model.specs.Prelude.{is_startable, is_started, is_ticket, is_unended, is_unstarted, is_within}
pub use Rattle.cmwq_model.specs.Prelude.{item_at, item_called, item_fired, item_of, item_run, item_runs, least_waited}
pub use Rattle.cmwq_model.specs.Prelude.{may_call, most_time, newly_active, none, number_booked, number_cancelled}
pub use Rattle.cmwq_model.specs.Prelude.{number_finished, number_started, opening, opens, past_of, place_wanted}
pub use Rattle.cmwq_model.specs.Prelude.{pool_at, queue_of, queued_at, queueing_at, reply_fits, room_needed, run}
pub use Rattle.cmwq_model.specs.Prelude.{run_queue, runs_elsewhere, runs_on, same_pool, same_who, same_worker}
pub use Rattle.cmwq_model.specs.Prelude.{serial_of, sets_max, settles, standing_bookings, stands, start_in, start_of}
pub use Rattle.cmwq_model.specs.Prelude.{starts, starts_item, step, steps, still_open, takes_back, ticket_for}
pub use Rattle.cmwq_model.specs.Prelude.{ticket_in, ticket_of, ticks_told, unended_tickets, unstarted_queueing}
pub use Rattle.cmwq_model.specs.Prelude.{waits_for, width_told}
unfoldable pub use Rattle.cmwq_model.specs.Prelude.{IsLegal, answer, became_active, booking, bookings, enlisted_by}
unfoldable pub use Rattle.cmwq_model.specs.Prelude.{is_active, is_cancelled, is_frozen, is_gone, item_start, last_start}
unfoldable pub use Rattle.cmwq_model.specs.Prelude.{max_active, modify_answer, next, now, queue_answer, queueings}
unfoldable pub use Rattle.cmwq_model.specs.Prelude.{serving_from, take_answer, tickets, wait_answer, width, worklist}
pub use Rattle.cmwq_model.specs.declared.call.Call.{Call}
pub use Rattle.cmwq_model.specs.declared.entry.Entry.{Entry}
pub use Rattle.cmwq_model.specs.declared.id.PoolId.{PoolId}
pub use Rattle.cmwq_model.specs.declared.id.Who.{Who}
pub use Rattle.cmwq_model.specs.declared.id.Who.TheVariants.{Caller, Worker}
pub use Rattle.cmwq_model.specs.declared.id.WorkerId.{WorkerId}
pub use Rattle.cmwq_model.specs.declared.record.Booking.{Booking}
pub use Rattle.cmwq_model.specs.declared.record.Queueing.{Queueing}
pub use Rattle.cmwq_model.specs.declared.record.Start.{Start}
pub use Rattle.cmwq_model.specs.declared.record.Ticket.{Ticket}
pub use Rattle.cmwq_model.specs.declared.reply.Reply.{Reply}
pub use Rattle.cmwq_model.specs.declared.verdict.Illegal.{Illegal}
pub use Rattle.cmwq_theory_steps.proofs.Joined.{active_go_on, active_live}
pub use Rattle.cmwq_theory_steps.proofs.Rising.{IsBelow, find_least, open_rise, opening_number, queueings_below}
pub use Rattle.cmwq_theory_steps.proofs.Activated.{find_holds, next_holds}
pub use Rattle.cmwq_theory_steps.proofs.Active.{active_are_first, active_on, first_active, fronts_below_max_active}
pub use Rattle.cmwq_theory_steps.proofs.Active.{kept_front, ways_counted}
pub use Rattle.cmwq_theory_steps.proofs.Causes.{Cause, IsFree, cause_of, causes}
pub use Rattle.cmwq_theory_steps.proofs.Done.{ended_call, ends_ticket, ready_call}
pub use Rattle.cmwq_theory_steps.proofs.Entries.{IsKnown, is_at-true, known_more, queueings_known}
pub use Rattle.cmwq_theory_steps.proofs.Fresh.{IsOpenOne, finishes_run, open_at_once, open_known, unstarted_is}
pub use Rattle.cmwq_theory_steps.proofs.ItemRuns.{no_start, one_worker, run_is, same_worker-true, same_worker_itself}
pub use Rattle.cmwq_theory_steps.proofs.ItemRuns.{started_older, starts_no_item}
pub use Rattle.cmwq_theory_steps.proofs.ItemSteps.{items_are_run, items_run_on}
pub use Rattle.cmwq_theory_steps.proofs.Pending.{booked_or_unstarted, no_more_pending, none_unstarted, not_idle}
pub use Rattle.cmwq_theory_steps.proofs.Pending.{of_item, one_unstarted, opening_opens, pending_count, unstarted_count}
pub use Rattle.cmwq_theory_steps.proofs.Pending.{waiting_now, waiting_was}
pub use Rattle.cmwq_theory_steps.proofs.Reasons.{legal_fits, number_reason}
pub use Rattle.cmwq_theory_steps.proofs.Standing.{booking_after, due_own}
pub use Rattle.cmwq_theory_steps.specs.Histories.{OfEachEntry, OfEntries, OfLegal}
pub use Rattle.cmwq_theory_steps.specs.Places.{is_on, open_on}
unfoldable pub use Rattle.cmwq_theory_steps.specs.Places.{active_count}
pub use Rattle.cmwq_theory_steps.specs.RoomSteps.{is_promised}
pub use Rattle.cmwq_theory_steps.specs.TicketSteps.{IsDone}
