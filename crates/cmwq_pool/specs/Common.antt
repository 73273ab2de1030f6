-- What the files of this crate name from outside it, in one import.
pub use Rattle.std.proofs.Common.{Bool, List, None, Option, Some, [], ap, ap₂, arith, cond, drop, eqb, false, filter}
pub use Rattle.std.proofs.Common.{get_or, length, ltb, map, not, refl, set, suc, sym, take, true, zero, ℕ, ◌&&◌, ◌++◌}
pub use Rattle.std.proofs.Common.{◌+◌, ◌<◌, ◌||◌, ◌∙◌, ◌∷◌, ◌≡◌, ◌≢◌, ◌≤◌}
pub use Rattle.std.proofs.lemmas.Bool.Decides.{nat_tests}
pub use Rattle.std.proofs.lemmas.List.{get_or-set_other, get_or-set_same, length-replicate, length-set}
pub use Rattle.std.specs.List.{list_any, position_or_len, range_with_len}
pub use Rattle.std.specs.Option.{option_map_or}
pub use Rattle.std.specs.Prelude.{IfSome, count_by, find, is_some, nat_eq, nat_lt, option_map, replicate}
pub use Rattle.std.specs.Prelude.{slice_index_or, slice_set}
