-- The words of the definitions, in one import. Those of the types are imported from where they are declared.
pub use Rattle.cmwq_model.specs.Active.{is_ahead, is_below_max_active, is_listed, is_newly_active, is_startable}
pub use Rattle.cmwq_model.specs.Active.{newly_active, same_place}
unfoldable pub use Rattle.cmwq_model.specs.Active.{became_active, is_active, next, worklist}
pub use Rattle.cmwq_model.specs.Answer.{end_of_ticket, finished_answer, fired_answer, is_booked_on, is_due_before}
pub use Rattle.cmwq_model.specs.Answer.{is_held_back, is_shut, is_soonest, may_call, may_fire}
pub use Rattle.cmwq_model.specs.Answer.{own_answer, runs_on, soonest, start_of, started_answer, taken_back_answer}
pub use Rattle.cmwq_model.specs.Answer.{taken_back_for, waiting_for, worker_answer}
unfoldable pub use Rattle.cmwq_model.specs.Answer.{answer, cancel_answer, cancel_sync_answer, destroy_answer}
unfoldable pub use Rattle.cmwq_model.specs.Answer.{finish_answer, first_due, flush_delayed_answer}
unfoldable pub use Rattle.cmwq_model.specs.Answer.{flush_item_answer, modify_answer, queue_answer, retire_answer}
unfoldable pub use Rattle.cmwq_model.specs.Answer.{set_max_answer, take_answer, wait_answer}
pub use Rattle.cmwq_model.specs.Bookings.{booked_by, booking_of, due_in, is_booked, is_nothing, number_booked}
pub use Rattle.cmwq_model.specs.Bookings.{settles, standing_bookings, stands}
unfoldable pub use Rattle.cmwq_model.specs.Bookings.{booking, bookings}
pub use Rattle.cmwq_model.specs.Calls.{entry_at, is_at, is_by, is_drain, is_of_item, is_tick, item_at, item_called}
pub use Rattle.cmwq_model.specs.Calls.{item_fired, item_number, item_of, same_pool, same_who, same_worker, serial_of}
pub use Rattle.cmwq_model.specs.Calls.{ticks_told, worker_of}
unfoldable pub use Rattle.cmwq_model.specs.Calls.{now}
pub use Rattle.cmwq_model.specs.Fate.{finishes, is_finished, is_open, is_started, number_cancelled, number_finished}
pub use Rattle.cmwq_model.specs.Fate.{number_started, replaces, starts, takes_back}
unfoldable pub use Rattle.cmwq_model.specs.Fate.{is_cancelled}
pub use Rattle.cmwq_model.specs.Layout.{Layout, are_counts, are_queues, entry_fits, first_width, fits, has_numbers}
pub use Rattle.cmwq_model.specs.Layout.{has_place, indices, is_between, is_callers}
pub use Rattle.cmwq_model.specs.Layout.{is_freezable, is_intensive, is_layout, is_queue, is_workers, layout_of}
pub use Rattle.cmwq_model.specs.Layout.{may_make, most_active, most_callers, most_cpus, most_items, most_queues}
pub use Rattle.cmwq_model.specs.Layout.{most_room, most_workers, no_queue, pool_at, queue_at}
pub use Rattle.cmwq_model.specs.Layout.{reply_fits}
pub use Rattle.cmwq_model.specs.Legal.{bits, entry_for, past_of}
unfoldable pub use Rattle.cmwq_model.specs.Legal.{IsLegal}
pub use Rattle.cmwq_model.specs.Queueings.{cpu_for, has_number, is_item_open, is_live, is_of, is_pending, is_unstarted}
pub use Rattle.cmwq_model.specs.Queueings.{opening, opens, place_booked}
pub use Rattle.cmwq_model.specs.Queueings.{place_called, place_wanted, queue_of, queued_at, queueing_at, run_queue}
pub use Rattle.cmwq_model.specs.Queueings.{runs_elsewhere, still_open, unstarted_queueing}
unfoldable pub use Rattle.cmwq_model.specs.Queueings.{queueings}
pub use Rattle.cmwq_model.specs.Ranges.{IsCall, IsEntry, IsReply, IsWho, greatest, greatest_byte, greatest_long}
pub use Rattle.cmwq_model.specs.Ranges.{greatest_short}
pub use Rattle.cmwq_model.specs.Room.{Steps, cpu_workers, has_not_started, has_room, has_time, most_time, room_needed}
pub use Rattle.cmwq_model.specs.Room.{none, pool_workers, step, steps, workers}
unfoldable pub use Rattle.cmwq_model.specs.Room.{owed}
pub use Rattle.cmwq_model.specs.Runs.{asleep_after, has_run, is_number_open, item_run, item_runs, run, runs_asleep}
pub use Rattle.cmwq_model.specs.Runs.{runs_awake, start_in, starts_item}
unfoldable pub use Rattle.cmwq_model.specs.Runs.{is_asleep, item_start, last_start}
pub use Rattle.cmwq_model.specs.Scripted.{IsScripted, is_whole}
pub use Rattle.cmwq_model.specs.Tickets.{cancels_sync, destroys, drains, ends, ends_destroy, flushes, gives_ticket}
pub use Rattle.cmwq_model.specs.Tickets.{is_being_destroyed, is_cancel_sync_of}
pub use Rattle.cmwq_model.specs.Tickets.{most_tickets}
pub use Rattle.cmwq_model.specs.Tickets.{is_cancelling, is_crowded, is_destroy_of, is_done, is_drain_of, is_draining}
pub use Rattle.cmwq_model.specs.Tickets.{is_end_of, is_flush_of, is_held_by}
pub use Rattle.cmwq_model.specs.Tickets.{is_ticket, is_unended, ticket_for, ticket_in, ticket_of, ticket_told}
pub use Rattle.cmwq_model.specs.Tickets.{unended_tickets}
unfoldable pub use Rattle.cmwq_model.specs.Tickets.{is_gone, tickets}
pub use Rattle.cmwq_model.specs.Verdict.{AllFit, IsFirstWrong, Wants}
pub use Rattle.cmwq_model.specs.Waits.{holds_up, is_older_flush, is_served_after, is_within, least_waited, waits_for}
unfoldable pub use Rattle.cmwq_model.specs.Waits.{serving_from}
pub use Rattle.cmwq_model.specs.Widths.{frozen_after, keeps_widths, sets_max, width_set, width_told}
unfoldable pub use Rattle.cmwq_model.specs.Widths.{is_frozen, max_active, width}
pub use Rattle.cmwq_model.specs.Workers.{enlists, has_spare, index_enlisted, is_holding, is_idle, is_in_pool}
pub use Rattle.cmwq_model.specs.Workers.{is_occupied, is_other_idle, is_reserve, is_retired}
pub use Rattle.cmwq_model.specs.Workers.{worker_at}
unfoldable pub use Rattle.cmwq_model.specs.Workers.{enlisted_by, is_enlisted, may_retire, runnable}
