-- What the files of this crate name from outside it, in one import.
pub use Rattle.std.proofs.Common.{Bool, Err, IsTrue, List, None, Ok, Result, Some, [], ap, append-nil, append_assoc}
pub use Rattle.std.proofs.Common.{arith, drop, false, get_or, inl, inr, length, not, refl, rules, set, subst, suc, sym}
pub use Rattle.std.proofs.Common.{take, true, true≢false, zero, ℕ, ◌&&◌, ◌++◌, ◌+◌, ◌<◌, ◌∙◌, ◌∷◌, ◌≡◌, ◌≢◌, ◌≤◌}
pub use Rattle.std.proofs.lemmas.List.{take_all, take_more}
pub use Rattle.std.proofs.lemmas.Option.{slice_get-get_or, slice_get_within}
pub use Rattle.std.specs.Prelude.{IfErr, IfOk, MatchBool, MatchOption, Option, if◌then◌else◌, nat_lt, slice_get}
pub use Rattle.std.specs.Prelude.{slice_set}
pub use mathlib.Core.List.{IsPrefix}
pub use Rattle.cmwq_model.specs.Prelude.{IsLegal, Layout, has_room, is_layout, layout_of, past_of, serial_of}
pub use Rattle.cmwq_model.specs.Prelude.{is_drain, is_tick, ticket_told}
pub use Rattle.cmwq_model.specs.declared.call.Call.{Call}
pub use Rattle.cmwq_model.specs.declared.entry.Entry.{Entry}
pub use Rattle.cmwq_model.specs.declared.id.ItemId.{ItemId}
pub use Rattle.cmwq_model.specs.declared.id.Who.{Who}
pub use Rattle.cmwq_model.specs.declared.id.WorkerId.{WorkerId}
pub use Rattle.cmwq_model.specs.declared.reply.Reply.{Reply}
pub use Rattle.cmwq_model.specs.declared.shape.Counts.{Counts}
pub use Rattle.cmwq_monitor.proofs.Beginnings.{prefix_self, prefix_trans}
pub use Rattle.cmwq_monitor.specs.Calls.{Extends}
pub use Rattle.cmwq_monitor.specs.Faults.{IsStranger, Refused, is_full}
pub use Rattle.cmwq_monitor.specs.Held.{active_in}
pub use Rattle.cmwq_monitor.specs.Participants.{Gains, View, is_caller, made_by}
pub use Rattle.cmwq_monitor.specs.Settled.{AllSettle, Settles}
pub use Rattle.cmwq_monitor.specs.Starts.{StartsItem, StartsOne}
pub use Rattle.cmwq_monitor.specs.Whole.{Behind, BrokeOff, Completes, EndsTicket, Fires, HadNoRoom, MakesEntries}
pub use Rattle.cmwq_monitor.specs.declared.fault.RunFault.{RunFault}
pub use Rattle.cmwq_monitor.specs.declared.fault.RunFault.TheVariants.{Closed, Full, NoMemory, NoPlace, NoThread}
pub use Rattle.cmwq_monitor.specs.declared.fault.RunFault.TheVariants.{Stranger, Unfinished}
