-- What the files of this crate name from outside it, in one import.
pub use Rattle.std.proofs.Common.{Bool, Err, IfNone, IfSome, IsSome, List, None, Ok, Option, Result, Some, [], ap, ap₂}
pub use Rattle.std.proofs.Common.{arith, cond, eqb, false, get_or, is_some, length, ltb, not, refl, replicate, rules}
pub use Rattle.std.proofs.Common.{set, suc, sym, take, true, zero, ℕ, ⊎_elim, ◌++◌, ◌+◌, ◌-◌, ◌<◌, ◌∙◌, ◌∷◌, ◌≡◌, ◌≢◌}
pub use Rattle.std.proofs.Common.{◌≤◌, ◌⊎◌}
pub use Rattle.std.proofs.lemmas.Bool.{cases_eq, cases_lt, false≢true}
pub use Rattle.std.proofs.lemmas.Bool.Decides.{nat_tests}
pub use Rattle.std.proofs.lemmas.List.{append_assoc, drop-map, get_or-append-add, get_or-map, get_or-set_other}
pub use Rattle.std.proofs.lemmas.List.{get_or-set_same, get_or-take, get_or_append_left, get_or_default, get_or_past}
pub use Rattle.std.proofs.lemmas.List.{length-append, length-map, length-take-le, map-append, map-id, map-set, map_push}
pub use Rattle.std.proofs.lemmas.List.{take-map}
pub use Rattle.std.proofs.lemmas.List.Edits.{get_or-remove_above, get_or-remove_below, length-remove}
pub use Rattle.std.proofs.lemmas.List.Edits.{remove-append_left}
pub use Rattle.std.proofs.lemmas.List.Elements.{All-append, All-cons, All-drop, All-filter, All-head, All-map, All-push}
pub use Rattle.std.proofs.lemmas.List.Elements.{All-tail, All-take, All-weaker, Contains-append_cases}
pub use Rattle.std.proofs.lemmas.List.Elements.{Contains-append_left, Contains-append_right}
pub use Rattle.std.proofs.lemmas.List.Quantifiers.{all_pairs_push, all_pairs_remove}
pub use Rattle.std.proofs.lemmas.List.Sorted.{IsNonDecreasingBy-push, answers_always}
pub use Rattle.std.proofs.lemmas.List.Sums.{count_by-le-length, fails_before_first, get_or-le-sum_by, length-filter}
pub use Rattle.std.proofs.lemmas.List.Sums.{passes_at_first, prefix_len-le-length, sum_by-le, sum_by-remove}
pub use Rattle.std.specs.List.{HoldsAt, position_or_len, range_with_len, remove}
pub use Rattle.std.specs.List.Sorted.{IsBinarySearchResult, IsNonDecreasingBy, IsSearchInRange}
pub use Rattle.std.specs.Prelude.{All, AllPairs, Contains, IsTrue, count_by, filter, find, map, nat_lt, slice_get}
pub use Rattle.std.specs.Prelude.{slice_index, ◌↔◌}
