-- What the files of this crate name from outside it, in one import.
pub use Rattle.std.proofs.Common.{Bool, List, None, Option, Some, [], add-one, ap, append-nil, append_assoc, ap₂, arith}
pub use Rattle.std.proofs.Common.{below_more, cond, count_by, drop, drop-cons, false, filter, find, get_or, inl, inr}
pub use Rattle.std.proofs.Common.{length, length-append, map, nat_lt, not, option_to_list, refl, rules, set}
pub use Rattle.std.proofs.Common.{string_bytes, subst, suc, sym, take, true, zero, ℕ, ⊎_elim, ◌&&◌, ◌*◌, ◌++◌, ◌+◌, ◌-◌}
pub use Rattle.std.proofs.Common.{◌<◌, ◌==◌, ◌||◌, ◌∙◌, ◌∷◌, ◌≡◌, ◌≢◌, ◌≤◌, ◌⊎◌}
pub use Rattle.std.proofs.Math.ListN.{get_or-map}
pub use Rattle.std.proofs.lemmas.Bool.{and_parts, cases_eq, eq-eqb, eqb-true, le-leb, lt-ltb, ne_eqb, or_cases}
pub use Rattle.std.proofs.lemmas.Bool.Decides.{nat_tests}
pub use Rattle.std.proofs.lemmas.List.{get_or-set_other, get_or-set_same, length-map, length-set, map-append}
pub use Rattle.std.proofs.lemmas.List.{with_items_is}
pub use Rattle.std.proofs.lemmas.List.Sums.{fold-append, sum_by-append, sum_by-cons, sum_by_push}
pub use Rattle.std.proofs.lemmas.Option.{same_Some}
pub use Rattle.std.specs.List.{AllByRecursion, flat_map, fold, list_all, list_any, range_with_len, remove}
pub use Rattle.std.specs.Option.{option_map_or, option_or}
pub use Rattle.std.specs.Prelude.{IsTrue, codes, decimal, if◌then◌else◌, is_some, nat_le, option_and_then, option_map}
pub use Rattle.std.specs.Prelude.{slice_get, slice_index, slice_index_or, sum, sum_by}
pub use Rattle.cmwq_core.specs.History.{History, next_entry, past_in, takes, with_entry}
pub use Rattle.cmwq_lemmas.proofs.Filters.{count_none, filter_same, filter_twice, none_found}
pub use Rattle.cmwq_lemmas.proofs.Lists.{All_append, All_both, All_each, All_filter, All_map, count_by-cons}
pub use Rattle.cmwq_lemmas.proofs.Members.{In, all_in, filter_in, found, in_filter, in_option, of_in}
pub use Rattle.cmwq_model.specs.Layout.{first_width}
pub use Rattle.cmwq_model.specs.Prelude.{Layout, are_queues, asleep_after, booked_by, booking_of, due_in, ends_destroy}
pub use Rattle.cmwq_model.specs.Prelude.{enlists, entry_for, fits, gives_ticket, has_room, has_run, has_time}
pub use Rattle.cmwq_model.specs.Prelude.{index_enlisted, indices, is_active, is_ahead, is_at, is_below_max_active}
pub use Rattle.cmwq_model.specs.Prelude.{is_between, is_by, is_cancel_sync_of, is_cancelling, is_done, is_drain_of}
pub use Rattle.cmwq_model.specs.Prelude.{is_finished, is_holding, is_idle, is_in_pool, is_intensive, is_newly_active}
pub use Rattle.cmwq_model.specs.Prelude.{is_of_item, is_open, is_other_idle, is_queue, is_reserve, is_retired, is_shut}
pub use Rattle.cmwq_model.specs.Prelude.{is_startable, is_started, is_unended, item_at, item_of, item_run, newly_active}
pub use Rattle.cmwq_model.specs.Prelude.{number_cancelled, number_finished, number_started, place_wanted, queued_at}
pub use Rattle.cmwq_model.specs.Prelude.{replaces, room_needed, run, same_pool, same_who, settles, start_in, start_of}
pub use Rattle.cmwq_model.specs.Prelude.{started_answer, starts, ticket_for, worker_at, worker_of}
unfoldable pub use Rattle.cmwq_model.specs.Prelude.{IsLegal, answer, became_active, booking, enlisted_by, finish_answer}
unfoldable pub use Rattle.cmwq_model.specs.Prelude.{is_asleep, is_cancelled, is_enlisted, is_gone, item_start}
unfoldable pub use Rattle.cmwq_model.specs.Prelude.{last_start, next, owed, queue_answer, runnable, take_answer}
unfoldable pub use Rattle.cmwq_model.specs.Prelude.{tickets, worklist}
pub use Rattle.cmwq_model.specs.Queueings.{cpu_for, has_number, is_live, is_pending, is_unstarted, opening, opens}
pub use Rattle.cmwq_model.specs.Queueings.{queueing_at, run_queue, runs_elsewhere, still_open, unstarted_queueing}
unfoldable pub use Rattle.cmwq_model.specs.Queueings.{queueings}
unfoldable pub use Rattle.cmwq_model.specs.Widths.{is_frozen, width}
pub use Rattle.cmwq_model.specs.declared.call.Call.{Call}
pub use Rattle.cmwq_model.specs.declared.entry.Entry.{Entry}
pub use Rattle.cmwq_model.specs.declared.id.PoolId.{PoolId}
pub use Rattle.cmwq_model.specs.declared.id.Who.{Who}
pub use Rattle.cmwq_model.specs.declared.id.Who.TheVariants.{Caller, Worker}
pub use Rattle.cmwq_model.specs.declared.id.WorkerId.{WorkerId}
pub use Rattle.cmwq_model.specs.declared.record.Queueing.{Queueing}
pub use Rattle.cmwq_model.specs.declared.record.Start.{Start}
pub use Rattle.cmwq_model.specs.declared.reply.Reply.{Reply}
pub use Rattle.cmwq_model.specs.declared.shape.QueueShape.{QueueShape}
pub use Rattle.cmwq_refinement.proofs.PoolNext.{runner_there}
pub use Rattle.cmwq_theory_steps.proofs.Joined.{active_live, stays_active}
pub use Rattle.cmwq_theory_steps.proofs.Widths.{width_same}
pub use Rattle.cmwq_model.specs.Widths.{keeps_widths}
pub use Rattle.cmwq_theory_laws.specs.FirstWidths.{HasFirstWidths}
pub use Rattle.cmwq_theory_steps.proofs.Endings.{open_go_on}
pub use Rattle.cmwq_theory_steps.proofs.ItemRuns.{same_worker-true, same_worker_itself}
pub use Rattle.cmwq_theory_steps.proofs.NewlyActive.{newly_active_are, opened_are_below_max_active}
pub use Rattle.cmwq_theory_steps.proofs.OwedSteps.{by_itself, runs_counted, sleepers_counted}
pub use Rattle.cmwq_theory_steps.proofs.Pools.{runs_are_in_pools}
pub use Rattle.cmwq_theory_steps.proofs.Promoted.{newly_of_open}
pub use Rattle.cmwq_theory_steps.proofs.RunSteps.{run_begun, workers_run_on}
pub use Rattle.cmwq_theory_steps.proofs.RunsActive.{found_known, run_is_active}
pub use Rattle.cmwq_theory_steps.proofs.WorklistSteps.{worklists_go_on}
pub use Rattle.cmwq_theory_steps.specs.Activations.{behind_width, is_below_max_active_at_once, is_in, is_left}
pub use Rattle.cmwq_theory_steps.specs.Activations.{is_of_same_pwq, waits}
pub use Rattle.cmwq_theory_steps.specs.Endings.{ending, is_ended, number_replaced, survives}
pub use Rattle.cmwq_theory_steps.specs.RoomSteps.{is_frozen_now, is_promised, is_slept}
pub use Rattle.cmwq_theory_steps.specs.RunSteps.{run_after}
