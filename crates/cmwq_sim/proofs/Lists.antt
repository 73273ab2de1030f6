-- What the proofs name of lists and truth values from outside the crate, in one import.
pub use Rattle.cmwq_lemmas.proofs.Lists.{All_push, count_append, count_by-head, filter_all, filter_shorter, find_none}
pub use Rattle.cmwq_lemmas.proofs.Lists.{found_passes, range_below, range_more}
pub use Rattle.cmwq_lemmas.proofs.Passing.{Any, none, one, all_found, any_below, all_kept, all_mapped_pass, all_split}
pub use Rattle.cmwq_lemmas.proofs.Passing.{any_counted, count_push, counted_any, fewer_kept, filter_mapped, found_any}
pub use Rattle.cmwq_lemmas.proofs.Passing.{found_there, last_any, less_kept, none_counted, none_found_any, none_kept}
pub use Rattle.cmwq_lemmas.proofs.Passing.{once_among, once_there, one_counted, one_fewer, one_there, others_there}
pub use Rattle.cmwq_lemmas.proofs.Passing.{taken_out}
pub use Rattle.cmwq_lemmas.proofs.Truth.{and_false, or_false}
pub use Rattle.std.proofs.lemmas.Bool.{both_ways, false_from_ne_true, false≢true, not-false, not-true, or_right}
pub use Rattle.std.proofs.lemmas.List.{drop-drop, drop_all}
pub use Rattle.std.proofs.lemmas.List.Elements.{filter-append}
pub use Rattle.std.proofs.lemmas.List.Folds.{list_any-append}
pub use Rattle.std.proofs.lemmas.List.Sums.{length-filter, sum-map}
pub use Rattle.std.proofs.lemmas.Option.{none-some}
