-- What the files of this crate name from outside it, in one import.
pub use Rattle.std.proofs.Common.{Bool, Err, List, None, Ok, Option, Result, Some, [], ap, append-nil, arith, drop}
pub use Rattle.std.proofs.Common.{false, get_or, inl, inr, length, length-append, refl, rules, subst, suc, sym, true}
pub use Rattle.std.proofs.Common.{zero, ℕ, ⊎_elim, ◌++◌, ◌+◌, ◌-◌, ◌<◌, ◌∙◌, ◌∷◌, ◌≡◌, ◌≤◌, ◌⊎◌}
pub use Rattle.std.proofs.lemmas.Option.{get_or_from_slice_get, slice_get-get_or, slice_get_within}
pub use Rattle.std.specs.Prelude.{IfErr, IfOk, MatchOption, nat_lt, slice_get}
pub use mathlib.Core.List.{IsPrefix}
pub use Rattle.cmwq_model.specs.Prelude.{Layout, past_of, serial_of}
unfoldable pub use Rattle.cmwq_model.specs.Prelude.{IsLegal}
pub use Rattle.cmwq_model.specs.declared.entry.Entry.{Entry}
pub use Rattle.cmwq_model.specs.declared.id.Who.TheVariants.{Worker}
pub use Rattle.cmwq_model.specs.declared.id.WorkerId.{WorkerId}
pub use Rattle.cmwq_monitor.specs.Participants.{View, made_by, newcomer}
pub use Rattle.cmwq_rt.specs.Places.{Places, after_worker, next_after, worker_by_number}
pub use Rattle.cmwq_rt.specs.Sums.{no_waits, plus}
pub use Rattle.cmwq_rt.specs.declared.left_out.LeftOut.{LeftOut}
pub use Rattle.cmwq_rt.specs.Running.{Behavior, HasWorked, RunsInTurn, breaks_off}
pub use Rattle.cmwq_engine.specs.Conduct.{Conduct, caller_numbered}
pub use Rattle.cmwq_engine.specs.declared.crew.Roster.{Roster}
