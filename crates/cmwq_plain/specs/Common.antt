-- What the files of this crate name from outside it, in one import.
pub use Rattle.std.proofs.Common.{Bool, List, None, Option, Some, [], add-one, ap, arith, cond, count_by, drop, false}
pub use Rattle.std.proofs.Common.{filter, find, fold, get_or, if◌then◌else◌, is_some, length, length-append}
pub use Rattle.std.proofs.Common.{length-drop, map, nat_le, nat_lt, not, option_and_then, option_map, option_to_list}
pub use Rattle.std.proofs.Common.{refl, reverse, slice_get, subst, suc, sym, take, true, zero, zero-add, ℕ, ◌&&◌, ◌*◌}
pub use Rattle.std.proofs.Common.{◌++◌, ◌+◌, ◌-◌, ◌<◌, ◌==◌, ◌||◌, ◌∙◌, ◌∷◌, ◌≡◌, ◌≤◌}
pub use Rattle.std.proofs.Math.Seq.{drop-append_seam, split_at, take-suc}
pub use Rattle.std.proofs.lemmas.Bool.{le-ltb, lt-ltb}
pub use Rattle.std.proofs.lemmas.List.{append-nil, drop_all, length-reverse, length-take-le, reverse-append}
pub use Rattle.std.proofs.lemmas.List.{take-append-drop, take_more}
pub use Rattle.std.proofs.lemmas.List.Elements.{filter-append}
pub use Rattle.std.proofs.lemmas.List.Folds.{find-append, list_any-append}
pub use Rattle.std.proofs.lemmas.List.Sums.{sum_by-append, sum_by-cons}
pub use Rattle.std.specs.List.{flat_map, list_any, range_with_len}
pub use Rattle.std.specs.Option.{option_map_or, option_or}
pub use Rattle.std.specs.Prelude.{IfSome}
pub use Rattle.cmwq_model.specs.Prelude.{AllFit, IsFirstWrong, Layout, Wants, asleep_after, booking_of, cpu_workers}
pub use Rattle.cmwq_model.specs.Prelude.{ends, ends_destroy, enlists, entry_at, entry_for, first_width, frozen_after}
pub use Rattle.cmwq_model.specs.Prelude.{has_not_started, has_number, has_run, holds_up, is_active, is_ahead}
pub use Rattle.cmwq_model.specs.Prelude.{is_below_max_active, is_booked_on, is_by, is_cancel_sync_of, is_destroy_of}
pub use Rattle.cmwq_model.specs.Prelude.{is_done, is_drain_of, is_due_before, is_finished, is_held_by, is_listed}
pub use Rattle.cmwq_model.specs.Prelude.{is_live, is_newly_active, is_of, is_of_item, is_older_flush, is_retired}
pub use Rattle.cmwq_model.specs.Prelude.{is_served_after, is_soonest, is_startable, is_started, is_ticket, is_unended}
pub use Rattle.cmwq_model.specs.Prelude.{is_unstarted, item_of, least_waited, may_fire, newly_active, number_started}
pub use Rattle.cmwq_model.specs.Prelude.{opening, opens, past_of, place_wanted, queued_at, replaces, runs_asleep}
pub use Rattle.cmwq_model.specs.Prelude.{serial_of, settles, standing_bookings, stands, start_in, starts_item}
pub use Rattle.cmwq_model.specs.Prelude.{still_open, takes_back, ticket_in, ticks_told, unended_tickets, waits_for}
pub use Rattle.cmwq_model.specs.Prelude.{width_set, worker_at}
unfoldable pub use Rattle.cmwq_model.specs.Prelude.{IsLegal, became_active, booking, bookings, is_asleep, is_cancelled}
unfoldable pub use Rattle.cmwq_model.specs.Prelude.{is_enlisted, is_frozen, is_gone, item_start, last_start, max_active}
unfoldable pub use Rattle.cmwq_model.specs.Prelude.{next, now, queueings, serving_from, tickets, worklist}
pub use Rattle.cmwq_model.specs.declared.call.Call.{Call}
pub use Rattle.cmwq_model.specs.declared.entry.Entry.{Entry}
pub use Rattle.cmwq_model.specs.declared.id.PoolId.{PoolId}
pub use Rattle.cmwq_model.specs.declared.id.Who.TheVariants.{Worker}
pub use Rattle.cmwq_model.specs.declared.id.WorkerId.{WorkerId}
pub use Rattle.cmwq_model.specs.declared.record.Queueing.{Queueing}
pub use Rattle.cmwq_model.specs.Widths.{keeps_widths}
unfoldable pub use Rattle.cmwq_theory_steps.specs.Looks.{was_below_max_active}
