-- What the files of this crate name from outside it, in one import.
pub use Rattle.std.proofs.Common.{Bool, List, None, Option, Some, [], add-zero, ap, append-nil, ap₂, arith, cond}
pub use Rattle.std.proofs.Common.{count_by, drop, false, filter, find, if◌then◌else◌, inl, inr, length, length-append}
pub use Rattle.std.proofs.Common.{map, max, min, nat_le, nat_lt, not, option_to_list, refl, subst, suc, sym, take, true}
pub use Rattle.std.proofs.Common.{zero, zero-add, ℕ, ◌&&◌, ◌++◌, ◌+◌, ◌-◌, ◌<◌, ◌==◌, ◌||◌, ◌∙◌, ◌∷◌, ◌≡◌, ◌≤◌}
pub use Rattle.std.proofs.lemmas.Bool.{and_parts, cases_lt, eq-eqb, eqb-true, false_from_ne_true, le-ltb, lt-ltb}
pub use Rattle.std.proofs.lemmas.Bool.{ltb-false, ltb-true, or_right}
pub use Rattle.std.proofs.lemmas.Bool.Decides.{eqb_tells, nat_tests}
pub use Rattle.std.proofs.lemmas.List.{length-map, length-take, map-append}
pub use Rattle.std.proofs.lemmas.List.Elements.{All-from_recursion, Contains-append_left, Contains-append_right}
pub use Rattle.std.proofs.lemmas.List.Elements.{filter-append}
pub use Rattle.std.proofs.lemmas.List.Filters.{length-filter_both, sum_by-filter_both}
pub use Rattle.std.proofs.lemmas.List.Folds.{find-append}
pub use Rattle.std.proofs.lemmas.List.Sums.{length-filter, sum_by-append}
pub use Rattle.std.specs.List.{AllByRecursion, list_any, range_with_len}
pub use Rattle.std.specs.Option.{option_map_or, option_or}
pub use Rattle.std.specs.Prelude.{Contains, IsTrue, flat_map, is_some, option_and_then, option_map, reverse, slice_get}
pub use Rattle.std.specs.Prelude.{◌*◌}
pub use mathlib.Core.Bool.{beq}
pub use Rattle.cmwq_lemmas.proofs.Lists.{All_append, All_both, All_each, All_filter, All_map, All_unfilter}
pub use Rattle.cmwq_lemmas.proofs.Lists.{count_by-cons, count_by-filter, count_by-none, find_none}
pub use Rattle.cmwq_model.specs.Prelude.{Layout, asleep_after, bits, booked_by, booking_of, cpu_for, cpu_workers}
pub use Rattle.cmwq_model.specs.Prelude.{due_in, end_of_ticket, ends, ends_destroy, enlisted_by, enlists, entry_at}
pub use Rattle.cmwq_model.specs.Prelude.{finished_answer, finishes, fired_answer, fits, frozen_after, gives_ticket}
pub use Rattle.cmwq_model.specs.Prelude.{has_not_started, has_number, has_numbers, has_run, index_enlisted, indices}
pub use Rattle.cmwq_model.specs.Prelude.{is_ahead, is_at, is_being_destroyed, is_below_max_active, is_booked}
pub use Rattle.cmwq_model.specs.Prelude.{is_booked_on, is_by, is_cancelling, is_crowded, is_done, is_end_of}
pub use Rattle.cmwq_model.specs.Prelude.{is_finished, is_flush_of, is_freezable, is_held_back, is_held_by, is_in_pool}
pub use Rattle.cmwq_model.specs.Prelude.{is_item_open, is_listed, is_live, is_newly_active, is_number_open, is_of}
pub use Rattle.cmwq_model.specs.Prelude.{is_of_item, is_older_flush, is_open, is_pending, is_retired, is_served_after}
pub use Rattle.cmwq_model.specs.Prelude.{is_shut, is_soonest, is_startable, is_started, is_ticket, is_unended}
pub use Rattle.cmwq_model.specs.Prelude.{is_unstarted, is_workers, item_at, item_called, item_fired, item_of, item_run}
pub use Rattle.cmwq_model.specs.Prelude.{item_runs, may_call, may_fire, may_make, may_retire, newly_active, none}
pub use Rattle.cmwq_model.specs.Prelude.{number_booked, number_cancelled, number_finished, number_started, opening}
pub use Rattle.cmwq_model.specs.Prelude.{opens, past_of, place_called, place_wanted, pool_at, pool_workers, queue_at}
pub use Rattle.cmwq_model.specs.Prelude.{queue_of, queued_at, queueing_at, replaces, room_needed, run, run_queue}
pub use Rattle.cmwq_model.specs.Prelude.{runnable, runs_asleep, runs_awake, runs_elsewhere, same_place, same_pool}
pub use Rattle.cmwq_model.specs.Prelude.{same_who, same_worker, serial_of, sets_max, settles, standing_bookings, stands}
pub use Rattle.cmwq_model.specs.Prelude.{start_in, start_of, started_answer, starts, starts_item, still_open}
pub use Rattle.cmwq_model.specs.Prelude.{taken_back_answer, taken_back_for, takes_back, ticket_for, ticket_in}
pub use Rattle.cmwq_model.specs.Prelude.{ticket_of, ticks_told, unended_tickets, unstarted_queueing, waiting_for}
pub use Rattle.cmwq_model.specs.Prelude.{waits_for, width_told, worker_at, worker_of, workers}
unfoldable pub use Rattle.cmwq_model.specs.Prelude.{IsLegal, answer, became_active, booking, bookings, cancel_answer}
unfoldable pub use Rattle.cmwq_model.specs.Prelude.{cancel_sync_answer, destroy_answer, finish_answer, first_due}
unfoldable pub use Rattle.cmwq_model.specs.Prelude.{flush_delayed_answer, flush_item_answer, is_active, is_asleep}
unfoldable pub use Rattle.cmwq_model.specs.Prelude.{is_cancelled, is_enlisted, is_frozen, is_gone, item_start}
unfoldable pub use Rattle.cmwq_model.specs.Prelude.{last_start, max_active, modify_answer, next, now, owed}
unfoldable pub use Rattle.cmwq_model.specs.Prelude.{queue_answer, queueings, retire_answer, serving_from}
unfoldable pub use Rattle.cmwq_model.specs.Prelude.{set_max_answer, take_answer, tickets, wait_answer, width, worklist}
pub use Rattle.cmwq_model.specs.declared.call.Call.{Call}
pub use Rattle.cmwq_model.specs.declared.entry.Entry.{Entry}
pub use Rattle.cmwq_model.specs.declared.id.CallerId.{CallerId}
pub use Rattle.cmwq_model.specs.declared.id.CpuId.{CpuId}
pub use Rattle.cmwq_model.specs.declared.id.ItemId.{ItemId}
pub use Rattle.cmwq_model.specs.declared.id.PoolId.{PoolId}
pub use Rattle.cmwq_model.specs.declared.id.QueueId.{QueueId}
pub use Rattle.cmwq_model.specs.declared.id.Who.{Who}
pub use Rattle.cmwq_model.specs.declared.id.Who.TheVariants.{Caller, Worker}
pub use Rattle.cmwq_model.specs.declared.id.WorkerId.{WorkerId}
pub use Rattle.cmwq_model.specs.declared.record.Booking.{Booking}
pub use Rattle.cmwq_model.specs.declared.record.Place.{Place}
pub use Rattle.cmwq_model.specs.declared.record.Queueing.{Queueing}
pub use Rattle.cmwq_model.specs.declared.record.Start.{Start}
pub use Rattle.cmwq_model.specs.declared.record.Ticket.{Ticket}
pub use Rattle.cmwq_model.specs.declared.reply.Reply.{Reply}
pub use Rattle.cmwq_lemmas.proofs.Members.{In, all_in, in_append, in_filter, in_left, in_map, in_mapped, in_option}
pub use Rattle.cmwq_lemmas.proofs.Members.{in_right}
pub use Rattle.cmwq_lemmas.proofs.Members.{found, of_in, option_in, filter_in}
pub use Rattle.cmwq_lemmas.proofs.Filters.{filter_same, find_same, filter_twice, count_by-same}
pub use Rattle.cmwq_model.specs.Prelude.{is_within, holds_up}
pub use Rattle.std.proofs.Common.{⊎_elim}
