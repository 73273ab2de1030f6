-- What the files of this crate name from outside it, in one import.
pub use Rattle.std.proofs.Common.{Bool, List, None, Option, Some, [], add-one, ap, ap₂, arith, drop, false, find}
pub use Rattle.std.proofs.Common.{get_or, is_some, length, length-append, nat_le, nat_lt, not, refl, reverse, subst}
pub use Rattle.std.proofs.Common.{sym, take, true, ℕ, ◌&&◌, ◌*◌, ◌+◌, ◌-◌, ◌<◌, ◌==◌, ◌^◌, ◌||◌, ◌∙◌, ◌∷◌, ◌≡◌, ◌≤◌}
pub use Rattle.std.proofs.lemmas.Bool.{and_parts, eqb-true, le-leb, leb-true, ltb-true}
pub use Rattle.std.proofs.lemmas.List.{length-map, length-take-le, reverse-append, take_more}
pub use Rattle.std.proofs.lemmas.Option.{same_Some}
pub use Rattle.std.specs.Option.{option_map_or, option_or}
pub use Rattle.std.specs.Prelude.{Contains, IsTrue, flat_map, if◌then◌else◌, option_and_then, option_map}
pub use Rattle.cmwq_inflight.specs.Flights.{Flight, with_started, with_unstarted, without_run}
pub use Rattle.cmwq_lemmas.proofs.Members.{found, in_contained}
pub use Rattle.cmwq_model.specs.Prelude.{AllFit, IsFirstWrong, Layout, Wants, bits, booking, booking_of, cpu_for}
pub use Rattle.cmwq_model.specs.Prelude.{cpu_workers, entry_for, fired_answer, first_due, fits, gives_ticket}
pub use Rattle.cmwq_model.specs.Prelude.{has_not_started, has_numbers, has_room, has_run, has_time, indices, is_at}
pub use Rattle.cmwq_model.specs.Prelude.{is_booked, is_done, is_frozen, is_gone, is_layout, is_of_item, is_pending}
pub use Rattle.cmwq_model.specs.Prelude.{is_started, is_unstarted, item_at, item_called, item_fired, item_number}
pub use Rattle.cmwq_model.specs.Prelude.{item_of, item_run, may_make, most_time, next, number_finished, number_started}
pub use Rattle.cmwq_model.specs.Prelude.{opening, past_of, pool_workers, queueing_at, run, runs_asleep, settles}
pub use Rattle.cmwq_model.specs.Prelude.{still_open, ticket_in, ticks_told, unended_tickets, unstarted_queueing}
pub use Rattle.cmwq_model.specs.Prelude.{waits_for, worker_at, workers}
unfoldable pub use Rattle.cmwq_model.specs.Prelude.{IsLegal, now, owed}
pub use Rattle.cmwq_model.specs.declared.call.Call.{Call}
pub use Rattle.cmwq_model.specs.declared.entry.Entry.{Entry}
pub use Rattle.cmwq_model.specs.declared.id.CpuId.{CpuId}
pub use Rattle.cmwq_model.specs.declared.id.ItemId.{ItemId}
pub use Rattle.cmwq_model.specs.declared.id.PoolId.{PoolId}
pub use Rattle.cmwq_model.specs.declared.id.Who.{Who}
pub use Rattle.cmwq_model.specs.declared.id.Who.TheVariants.{Caller, Worker}
pub use Rattle.cmwq_model.specs.declared.record.Booking.{Booking}
pub use Rattle.cmwq_model.specs.declared.record.Queueing.{Queueing}
pub use Rattle.cmwq_model.specs.declared.record.Ticket.{Ticket}
pub use Rattle.cmwq_model.specs.declared.reply.Reply.{Reply}
pub use Rattle.cmwq_refinement.proofs.FlightKinds.{legal_before}
pub use Rattle.cmwq_refinement.proofs.PlacesFit.{unended_tickets_fit}
pub use Rattle.cmwq_refinement.specs.Flights.{flight_of, starting}
pub use Rattle.cmwq_state.proofs.Steps.{fits_there, next_legal}
pub use Rattle.cmwq_state.specs.Effects.{IsEffect}
pub use Rattle.cmwq_theory_steps.proofs.Ended.{found_unstarted}
pub use Rattle.cmwq_theory_steps.proofs.EndsAsTold.{ends_as_told, runs_are_queueings}
pub use Rattle.cmwq_theory_steps.proofs.RunsActive.{found_known, found_number, run_is_active}
pub use Rattle.cmwq_theory_steps.proofs.Starts.{starts_next}
pub use Rattle.cmwq_theory_steps.proofs.Unstarted.{next_unstarted}
pub use Rattle.cmwq_theory_steps.specs.Endings.{ending}
pub use Rattle.cmwq_theory_steps.specs.Histories.{OfEachEntry, one}
pub use Rattle.cmwq_theory_steps.specs.ItemQueueings.{ended_by, queueing_run}
pub use Rattle.cmwq_theory_steps.specs.Marks.{item_marked}
pub use Rattle.cmwq_theory_steps.specs.RoomSteps.{ends_unstarted, is_frozen_now, is_slept, is_thawed_now, is_woke}
pub use Rattle.cmwq_theory_steps.specs.RoomSteps.{settles_booked}
