-- What the proofs cite from outside this crate, beside what specs/Common.antt passes on.
pub use Rattle.cmwq_lemmas.proofs.Filters.{count_by-fewer, count_by-same, count_by-wider, filter_none, filter_one}
pub use Rattle.cmwq_lemmas.proofs.Filters.{filter_same, filter_twice, find-filter, find_same, none_found}
pub use Rattle.cmwq_lemmas.proofs.Lists.{count_append, filter_all}
pub use Rattle.cmwq_lemmas.proofs.Passing.{all_found, all_kept, fewer_kept, none_kept}
pub use Rattle.cmwq_lemmas.proofs.Truth.{and_false, flip}
pub use Rattle.std.proofs.Common.{add-one, take_all, ⊎_elim}
pub use Rattle.std.proofs.lemmas.Bool.{both_ways, cases_Bool, ne_eqb, not-false, not-true, or_parts}
pub use Rattle.std.proofs.lemmas.List.{drop_all}
pub use Rattle.std.proofs.lemmas.List.Sums.{length-filter}
pub use Rattle.std.proofs.lemmas.Option.{cond_some, option_and_then_some, same_Some}
