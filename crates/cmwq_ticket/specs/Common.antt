-- What the files of this crate name from outside it, in one import.
pub use Rattle.std.proofs.Common.{All, AllPairs, Bool, IsTrue, List, None, Option, Some, [], add-one, ap, arith, cond}
pub use Rattle.std.proofs.Common.{count_by, drop, drop-cons, false, filter, find, get_or, is_some, length, mul-zero}
pub use Rattle.std.proofs.Common.{not, refl, replicate, suc, sum_by, sym, true, zero, ℕ, ⊎_elim, ◌++◌, ◌+◌, ◌-◌, ◌<◌}
pub use Rattle.std.proofs.Common.{◌==◌, ◌∙◌, ◌∷◌, ◌≡◌, ◌≤◌}
pub use Rattle.std.proofs.lemmas.Bool.{and_parts, cases_eq, cases_lt, eqb-true, ltb-true}
pub use Rattle.std.proofs.lemmas.Bool.Decides.{nat_tests}
pub use Rattle.std.proofs.lemmas.List.{get_or-set_other, get_or-set_same, get_or_default, get_or_past}
pub use Rattle.std.proofs.lemmas.List.{get_or_read_under, length-append, length-replicate, length-set}
pub use Rattle.std.proofs.lemmas.List.Folds.{find-append, sum_by-replicate}
pub use Rattle.std.proofs.lemmas.List.Sums.{AllPass-from_list_all, count_by-le-length, length-filter, sum_by-cons}
pub use Rattle.std.proofs.lemmas.List.Sums.{sum_by-le, sum_by-set, sum_by_push}
pub use Rattle.std.specs.List.{list_all, list_any}
pub use Rattle.std.specs.Prelude.{flat_map, nat_le, nat_lt, slice_index, slice_index_or, slice_set, vec_capacity}
pub use Rattle.cmwq_model.specs.Prelude.{cancels_sync, destroys, drains, is_cancel_sync_of, is_destroy_of, is_drain_of}
pub use Rattle.cmwq_model.specs.declared.call.Call.{Call}
pub use Rattle.cmwq_model.specs.declared.record.Ticket.{Ticket}
