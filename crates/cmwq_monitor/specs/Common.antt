-- What the files of this crate name from outside it, in one import.
pub use Rattle.std.proofs.Common.{Bool, IsTrue, List, None, Ok, Result, Some, [], ap, append-nil, append_assoc, arith}
pub use Rattle.std.proofs.Common.{cond, drop}
pub use Rattle.std.proofs.Common.{false, inl, inr, length, length-append, map, nat_lt, refl, reverse, rules, subst, suc}
pub use Rattle.std.proofs.Common.{sym, true, true≢false, zero, ℕ, ◌&&◌, ◌++◌, ◌+◌, ◌<◌, ◌∙◌, ◌∷◌, ◌≡◌, ◌≢◌, ◌≤◌}
pub use Rattle.std.proofs.lemmas.Bool.{le-leb, lt-ltb}
pub use Rattle.std.proofs.lemmas.List.{length-map, map-append, nil_from_length, reverse-append, reverse-reverse}
pub use Rattle.std.proofs.lemmas.List.Elements.{All-append, All-cons, All-nil, filter-append}
pub use Rattle.std.proofs.lemmas.Option.{same_Some}
pub use Rattle.std.specs.List.{count_by, filter, range_with_len}
pub use Rattle.std.specs.Prelude.{All, MatchBool, MatchOption, Option, slice_get}
pub use mathlib.Core.List.{IsPrefix}
pub use Rattle.cmwq_core.specs.History.{History, IsMark, IsThere, takes}
pub use Rattle.cmwq_model.specs.Prelude.{Layout, entry_for, fits, gives_ticket, has_numbers, has_room, is_active, is_by}
pub use Rattle.cmwq_model.specs.Prelude.{is_callers, is_done, is_unstarted, is_workers, number_started, past_of}
pub use Rattle.cmwq_model.specs.Prelude.{queueing_at, room_needed, serial_of, still_open, unstarted_queueing}
unfoldable pub use Rattle.cmwq_model.specs.Prelude.{IsLegal, answer}
pub use Rattle.cmwq_model.specs.declared.call.Call.{Call}
pub use Rattle.cmwq_model.specs.declared.entry.Entry.{Entry}
pub use Rattle.cmwq_model.specs.declared.entry.Mark.{Mark}
pub use Rattle.cmwq_model.specs.declared.id.ItemId.{ItemId}
pub use Rattle.cmwq_model.specs.declared.id.Who.{Who}
pub use Rattle.cmwq_model.specs.declared.id.Who.TheVariants.{Caller, Worker}
pub use Rattle.cmwq_model.specs.declared.record.Queueing.{Queueing}
pub use Rattle.cmwq_model.specs.declared.reply.Reply.{Reply}
pub use Rattle.cmwq_theory_steps.proofs.StateSteps.{serials_rise}
