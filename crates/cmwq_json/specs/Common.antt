-- What the files of this crate name from outside it, in one import.
pub use Rattle.std.proofs.Common.{Bool, Bor, Err, List, None, Ok, Option, Result, Some, [], add-one, ap, ap₂, arith}
pub use Rattle.std.proofs.Common.{cond, drop, drop-cons, false, get_or, if◌then◌else◌, length, length-append, map}
pub use Rattle.std.proofs.Common.{nat_eq, nat_le, nat_lt, not, position, refl, string_bytes, subst, suc, sym, true}
pub use Rattle.std.proofs.Common.{zero, ℕ, ◌&&◌, ◌++◌, ◌+◌, ◌<◌, ◌==◌, ◌||◌, ◌∙◌, ◌∷◌, ◌≡◌, ◌≤◌}
pub use Rattle.std.proofs.lemmas.Bool.{and_parts, lt-ltb, ne_eqb}
pub use Rattle.std.proofs.lemmas.List.{length-map, map-append}
pub use Rattle.std.specs.List.{AllByRecursion, filter, list_all, list_any, position_or_len, prefix_len}
pub use Rattle.std.specs.Option.{option_eq, option_map_or}
pub use Rattle.std.specs.Prelude.{IfSome, String, codes, is_some, min, option_and_then, option_map}
pub use Rattle.std.specs.Result.{result_map_both, result_unwrap_or}
pub use Rattle.std.specs.Str.{bytes_eq}
pub use Rattle.std.specs.declared.alloc.Global.{Global}
pub use Rattle.serde_json.specs.Data.{Data, Items, Members, item, member, no_items, no_members}
pub use Rattle.serde_json.specs.Find.{as_array, as_bool, as_number, as_object, as_str, as_u64, get}
pub use Rattle.serde_json.specs.View.{items_view, members_view, view}
pub use Rattle.serde_json.specs.declared.value.Value.{Value}
