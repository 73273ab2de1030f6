-- What the files of this crate name from outside it, in one import.
pub use Rattle.std.proofs.Common.{Bool, List, None, Option, Some, [], ap, append-nil, append_assoc, ap₂, arith, cond}
pub use Rattle.std.proofs.Common.{count_by, false, filter, find, length, map, max, min, nat_le, nat_lt, not}
pub use Rattle.std.proofs.Common.{option_to_list, refl, reverse, subst, suc, sym, take, true, zero, ℕ, ◌&&◌, ◌*◌, ◌++◌}
pub use Rattle.std.proofs.Common.{◌+◌, ◌-◌, ◌<◌, ◌==◌, ◌||◌, ◌∙◌, ◌∷◌, ◌≡◌, ◌≤◌}
pub use Rattle.std.proofs.lemmas.Bool.{and_parts, eq-eqb, eqb-true, le-leb, leb-true, lt-ltb, ltb-true, or_parts}
pub use Rattle.std.proofs.Common.{inl, inr, ◌⊎◌}
pub use Rattle.std.proofs.lemmas.Bool.{both_ways, cases_lt, false_from_ne_true, ne_eqb, or_right}
pub use Rattle.std.proofs.lemmas.Bool.Decides.{nat_tests}
pub use Rattle.std.proofs.lemmas.List.{length-map, map-append}
pub use Rattle.std.proofs.lemmas.List.Elements.{filter-append}
pub use Rattle.std.proofs.lemmas.List.Folds.{list_any-append}
pub use Rattle.std.specs.List.{AllByRecursion, flat_map, list_any, range_with_len}
pub use Rattle.std.specs.Option.{option_map_or, option_or}
pub use Rattle.std.specs.Prelude.{IsTrue, fold, if◌then◌else◌, is_some, option_and_then, option_map, slice_index_or}
pub use Rattle.cmwq_lemmas.proofs.Filters.{filter_same, none_found}
pub use Rattle.cmwq_lemmas.proofs.Lists.{All_append, All_both, All_each, All_filter, All_map, all_mapped, filter_all}
pub use Rattle.cmwq_lemmas.proofs.Lists.{count_by-cons}
pub use Rattle.cmwq_model.specs.Prelude.{Layout, booked_by, booking_of, cpu_for, due_in, ends_destroy, entry_for}
pub use Rattle.cmwq_model.specs.Prelude.{first_width, fits, frozen_after, gives_ticket, has_not_started, has_place}
pub use Rattle.cmwq_model.specs.Prelude.{is_at, is_booked, is_cancel_sync_of, is_cancelling, is_done, is_drain_of}
pub use Rattle.cmwq_model.specs.Prelude.{is_draining, is_finished, is_live, is_of, is_of_item, is_open, is_pending}
pub use Rattle.cmwq_model.specs.Prelude.{is_shut, is_started, is_unended, is_unstarted, item_at, item_of, item_run}
pub use Rattle.cmwq_model.specs.Prelude.{most_active, number_booked, number_cancelled, number_finished, number_started}
pub use Rattle.cmwq_model.specs.Prelude.{opening, opens, place_wanted, queue_of, queued_at, replaces, runs_elsewhere}
pub use Rattle.cmwq_model.specs.Prelude.{settles, standing_bookings, stands, still_open, ticket_for, ticks_told}
pub use Rattle.cmwq_model.specs.Prelude.{unended_tickets, unstarted_queueing, worker_of, width_set, width_told}
pub use Rattle.cmwq_model.specs.Prelude.{sets_max}
unfoldable pub use Rattle.cmwq_model.specs.Prelude.{IsLegal, answer, booking, bookings, is_cancelled, is_frozen}
unfoldable pub use Rattle.cmwq_model.specs.Prelude.{is_gone, item_start, max_active, now, queue_answer, queueings}
unfoldable pub use Rattle.cmwq_model.specs.Prelude.{set_max_answer, tickets}
pub use Rattle.cmwq_model.specs.declared.call.Call.{Call}
pub use Rattle.cmwq_model.specs.declared.entry.Entry.{Entry}
pub use Rattle.cmwq_model.specs.declared.id.CallerId.{CallerId}
pub use Rattle.cmwq_model.specs.declared.id.Who.{Who}
pub use Rattle.cmwq_model.specs.declared.id.Who.TheVariants.{Caller, Worker}
pub use Rattle.cmwq_model.specs.declared.record.Booking.{Booking}
pub use Rattle.cmwq_model.specs.declared.record.Place.{Place}
pub use Rattle.cmwq_model.specs.declared.record.Queueing.{Queueing}
pub use Rattle.cmwq_model.specs.declared.record.Start.{Start}
pub use Rattle.cmwq_model.specs.declared.reply.Reply.{Reply}
pub use Rattle.cmwq_theory_steps.proofs.Fresh.{open_at_once}
pub use Rattle.cmwq_theory_steps.specs.Histories.{OfLegal}
