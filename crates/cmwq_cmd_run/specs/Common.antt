-- What the files of this crate name from outside it, in one import.
pub use Rattle.std.proofs.Common.{Bool, Err, List, None, Ok, Option, Result, Some, [], ap, get_or, inl, inr, length}
pub use Rattle.std.proofs.Common.{refl, subst, sym, take, true, false, ℕ, ◌++◌, ◌+◌, ◌<◌, ◌∙◌, ◌∷◌, ◌≡◌}
pub use Rattle.std.specs.Io.KnownBytes.{Appends, Keeps}
pub use Rattle.std.specs.Prelude.{IfErr, IfOk, IfSome, MatchBool, MatchOption, is_some, map, slice_get, suc, zero}
pub use Rattle.cmwq_json.specs.Inputs.{IsJson, IsLong, IsNoJson, Says}
pub use Rattle.cmwq_json_script.specs.Runs.{Run, run_said}
pub use Rattle.cmwq_json_script.specs.Scripts.{is_own, run_of}
pub use Rattle.cmwq_json_script.specs.Views.{calls_in}
pub use Rattle.cmwq_json_script.specs.declared.action.Action.{Action}
pub use Rattle.cmwq_model.specs.Prelude.{IsLegal, Layout, has_numbers, is_workers, past_of}
pub use Rattle.cmwq_model.specs.declared.call.Call.{Call}
pub use Rattle.cmwq_monitor.specs.Faults.{Refused}
pub use Rattle.cmwq_monitor.specs.Participants.{View}
pub use Rattle.cmwq_monitor.specs.declared.fault.RunFault.{RunFault}
pub use Rattle.cmwq_monitor.specs.declared.fault.RunFault.TheVariants.{Full}
pub use Rattle.cmwq_rt.specs.Running.{Behavior, MakesOne, fault_after}
pub use Rattle.cmwq_rt.specs.Scripts.{HasFollowed}
pub use Rattle.cmwq_rt.specs.Sums.{no_waits, one_refused, one_without_room}
pub use Rattle.cmwq_rt.specs.declared.left_out.LeftOut.{LeftOut}
