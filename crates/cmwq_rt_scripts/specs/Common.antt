-- What the files of this crate name from outside it, in one import.
pub use Rattle.std.proofs.Common.{Bool, Err, List, Ok, Option, Result, Some, [], ap, arith, drop, false, length, map}
pub use Rattle.std.proofs.Common.{refl, rules, subst, suc, sym, true, zero, ℕ, ◌++◌, ◌+◌, ◌<◌, ◌^◌, ◌∙◌, ◌∷◌, ◌≡◌, ◌≤◌}
pub use Rattle.std.proofs.lemmas.Option.{get_or_from_slice_get}
pub use Rattle.std.specs.Io.KnownBytes.{Appends}
pub use Rattle.std.specs.Prelude.{All, IfErr, IfOk, nat_le, nat_lt, slice_get}
pub use Rattle.std.specs.declared.alloc.Global.{Global}
pub use Rattle.std.specs.declared.vec.Vec.{Vec}
pub use mathlib.Core.List.{IsPrefix}
pub use Rattle.cmwq_model.specs.Prelude.{IsScripted, Layout, has_numbers, is_whole, past_of, serial_of}
unfoldable pub use Rattle.cmwq_model.specs.Prelude.{IsLegal}
pub use Rattle.cmwq_model.specs.declared.call.Call.{Call}
pub use Rattle.cmwq_model.specs.declared.entry.Entry.{Entry}
pub use Rattle.cmwq_monitor.specs.Participants.{View, made_by, newcomer}
pub use Rattle.cmwq_rt.specs.Running.{Behavior}
pub use Rattle.cmwq_rt.specs.Scripts.{Follows, HasFollowed}
pub use Rattle.cmwq_rt.specs.declared.left_out.LeftOut.{LeftOut}
pub use Rattle.cmwq_engine.specs.Conduct.{Conduct, caller_numbered}
pub use Rattle.cmwq_text.specs.HistoryText.{text_of_format}
