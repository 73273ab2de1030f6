-- What the files of this crate name from outside it, in one import.
pub use Rattle.std.proofs.Common.{Bool, List, None, Some, [], ap, append-nil, ap₂, arith, cond, count_by, drop, false}
pub use Rattle.std.proofs.Common.{filter, get_or, length, length-append, ltb, nat_lt, not, refl, rules, subst, suc, sym}
pub use Rattle.std.proofs.Common.{take, true, vec_len, zero, ℕ, ◌&&◌, ◌*◌, ◌++◌, ◌+◌, ◌-◌, ◌<◌, ◌==◌, ◌∙◌, ◌∷◌, ◌≡◌}
pub use Rattle.std.proofs.Common.{◌≢◌, ◌≤◌}
pub use Rattle.std.proofs.lemmas.Bool.{and_parts, eq-eqb, eqb-true, le-ltb, lt-ltb, ltb-false}
pub use Rattle.std.proofs.lemmas.List.{append_assoc, drop_more, get_or-set_other, get_or_default, length-set}
pub use Rattle.std.proofs.lemmas.List.{take-append-drop, take_all, take_more}
pub use Rattle.std.proofs.lemmas.List.Elements.{All-from_recursion, All-get_or, filter-append}
pub use Rattle.std.proofs.lemmas.List.Sums.{fails_before_first, sum_by-append}
pub use Rattle.std.specs.List.{AllByRecursion, list_any, position_or_len}
pub use Rattle.std.specs.Prelude.{All, Option, if◌then◌else◌, position, replicate, slice_index, slice_index_or}
pub use Rattle.std.specs.Prelude.{slice_set}
pub use Rattle.cmwq_lemmas.proofs.Lists.{All_both, All_filter, All_map, count_by-cons}
pub use Rattle.cmwq_model.specs.Prelude.{has_number, is_of, most_cpus, no_queue}
pub use Rattle.cmwq_model.specs.declared.record.Queueing.{Queueing}
pub use Rattle.cmwq_theory_steps.specs.Places.{is_on}
