-- What the files of this crate name from outside it, in one import.
pub use Rattle.std.specs.Prelude.{Bool, Contains, List, None, Option, Some, [], count_by, filter, false, length, nat_le}
pub use Rattle.std.specs.Prelude.{not, option_map, option_to_list, true, ℕ}
pub use Rattle.std.specs.List.{list_any, sum_by}
pub use Rattle.std.specs.Option.{option_map_or}
pub use Rattle.cmwq_model.specs.Prelude.{Layout, cancels_sync, holds_up, is_ahead, is_held_back, is_started, pool_at}
pub use Rattle.cmwq_model.specs.Prelude.{same_pool, still_open, unended_tickets, unstarted_queueing}
unfoldable pub use Rattle.cmwq_model.specs.Prelude.{is_active, max_active}
pub use Rattle.cmwq_model.specs.declared.call.Call.{Call}
pub use Rattle.cmwq_model.specs.declared.entry.Entry.{Entry}
pub use Rattle.cmwq_model.specs.declared.id.CallerId.{CallerId}
pub use Rattle.cmwq_model.specs.declared.record.Place.{Place}
pub use Rattle.cmwq_model.specs.declared.record.Queueing.{Queueing}
pub use Rattle.cmwq_model.specs.declared.record.Ticket.{Ticket}
pub use Rattle.cmwq_core.specs.History.{queued_of_booked}
pub use Rattle.cmwq_waits.specs.declared.run_wait.RunWait.{RunWait}
