-- What the files of this crate name from outside it, in one import.
pub use Rattle.std.proofs.Common.{Bool, Err, List, None, Ok, Option, Result, Some, [], ap, arith, drop, false}
pub use Rattle.std.proofs.Common.{if◌then◌else◌, length, map, refl, string_bytes, subst, sym, true, ℕ, ◌&&◌, ◌++◌, ◌<◌}
pub use Rattle.std.proofs.Common.{◌==◌, ◌∙◌, ◌∷◌, ◌≡◌, ◌≤◌}
pub use Rattle.std.proofs.lemmas.List.{length-map}
pub use Rattle.std.specs.Prelude.{IfSome, codes, nat_lt, option_and_then, option_map}
pub use Rattle.serde_json.specs.Data.{Data, Items}
pub use Rattle.serde_json.specs.Find.{as_array, as_str, get}
pub use Rattle.serde_json.specs.View.{items_view, view}
pub use Rattle.cmwq_json.proofs.Turns.{array_said, done, kept, stopped, went_on}
pub use Rattle.cmwq_json.specs.InTurn.{in_turn}
pub use Rattle.cmwq_json.specs.Keys.{has_keys}
pub use Rattle.cmwq_json.specs.Members.{named_of}
pub use Rattle.cmwq_json.specs.Names.{Named, add_named, is_in_range, map_named, name_said, nobody, number_of_name}
pub use Rattle.cmwq_json.specs.Numbers.{number_between}
pub use Rattle.cmwq_json.specs.Queues.{parts_said}
pub use Rattle.cmwq_sim.specs.Limits.{IsBetween, IsItem, IsQueue, IsWithinLimits}
pub use Rattle.cmwq_sim.specs.Plan.{Item, Plan, plan_item, plan_of}
pub use Rattle.cmwq_sim.specs.declared.scenario.SimQueue.{SimQueue}
