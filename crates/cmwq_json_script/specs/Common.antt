-- What the files of this crate name from outside it, in one import.
pub use Rattle.std.proofs.Common.{Bool, Err, List, None, Ok, Option, Result, Some, [], add-one, ap, ap₂, arith, cond}
pub use Rattle.std.proofs.Common.{drop, drop-cons, false, get_or, if◌then◌else◌, length, length-append, map, nat_le}
pub use Rattle.std.proofs.Common.{nat_lt, not, position, refl, string_bytes, subst, suc, sym, true, ℕ, ◌&&◌, ◌++◌, ◌+◌}
pub use Rattle.std.proofs.Common.{◌-◌, ◌<◌, ◌==◌, ◌^◌, ◌||◌, ◌∙◌, ◌∷◌, ◌≡◌, ◌≤◌}
pub use Rattle.std.proofs.lemmas.Bool.{lt-ltb, ltb-false, ne_eqb}
pub use Rattle.std.proofs.lemmas.Bool.Decides.{nat_tests}
pub use Rattle.std.proofs.lemmas.List.{length-map, map-append}
pub use Rattle.std.proofs.lemmas.Option.{IfSome_then, same_Some}
pub use Rattle.std.specs.List.{AllByRecursion, list_all, list_any, prefix_len}
pub use Rattle.std.specs.Option.{option_map_or}
pub use Rattle.std.specs.Prelude.{All, IfSome, String, codes, find, option_and_then, option_map}
pub use Rattle.std.specs.Result.{result_ok, result_unwrap_or}
pub use Rattle.std.specs.Str.{bytes_eq}
pub use Rattle.std.specs.declared.alloc.Global.{Global}
pub use Rattle.std.specs.declared.vec.Vec.{Vec}
pub use Rattle.indexmap.specs.IndexSet.{insert_key}
pub use Rattle.serde_json.specs.Data.{Data, Items, item, no_items}
pub use Rattle.serde_json.specs.Find.{as_array, as_bool, as_number, as_str, as_u64, get}
pub use Rattle.serde_json.specs.View.{items_view, view}
pub use Rattle.serde_json.specs.declared.value.Value.{Value}
pub use Rattle.cmwq_json.specs.declared.refused.Refused.{Refused}
pub use Rattle.cmwq_json.proofs.Adding.{same, taken}
pub use Rattle.cmwq_json.proofs.Limited.{AreKept, added, number_limits, parts_limits, placed}
pub use Rattle.cmwq_json.proofs.Turns.{array_said, done, drop_end, kept, stopped, went_on}
pub use Rattle.cmwq_json.specs.InTurn.{in_turn}
pub use Rattle.cmwq_json.specs.Keys.{has_keys, has_keys_with_optional}
pub use Rattle.cmwq_json.specs.Members.{named_of}
pub use Rattle.cmwq_json.specs.Names.{Named, add_named, is_taken, map_named, name_said, nobody, number_of_name}
pub use Rattle.cmwq_json.specs.Numbers.{number_between}
pub use Rattle.cmwq_json.specs.Queues.{parts_said}
pub use Rattle.cmwq_lemmas.proofs.Lists.{All_push}
pub use Rattle.cmwq_model.specs.Prelude.{IsScripted, Layout, has_numbers, is_layout, is_queue, is_whole, is_workers}
pub use Rattle.cmwq_model.specs.Prelude.{layout_of, most_callers, most_cpus, most_items, most_queues, most_room}
pub use Rattle.cmwq_model.specs.Prelude.{most_workers}
pub use Rattle.cmwq_model.specs.declared.call.Call.{Call}
pub use Rattle.cmwq_model.specs.declared.id.CpuId.{CpuId}
pub use Rattle.cmwq_model.specs.declared.id.ItemId.{ItemId}
pub use Rattle.cmwq_model.specs.declared.id.QueueId.{QueueId}
pub use Rattle.cmwq_model.specs.declared.shape.QueueShape.{QueueShape}
