-- What the files of this crate name from outside it, in one import.
pub use Rattle.std.proofs.Common.{Bool, List, None, Option, [], ap, arith, cond, false, fold, inl, length}
pub use Rattle.std.proofs.Common.{length-append, length-set, refl, replicate, set, subst, sym, true, ℕ, ⊎_elim, ◌++◌}
pub use Rattle.std.proofs.Common.{◌+◌, ◌<◌, ◌==◌, ◌∙◌, ◌∷◌, ◌≡◌, ◌≢◌, ◌≤◌}
pub use Rattle.std.proofs.lemmas.Bool.Decides.{nat_tests}
pub use Rattle.std.proofs.lemmas.List.{append-nil, get_or-replicate, length-replicate, length-reverse, reverse-append}
pub use Rattle.std.specs.Prelude.{All, MatchBool, MatchOption, Some, if◌then◌else◌, option_map, slice_index, slice_set}
pub use Rattle.crossbeam_utils.specs.Register.{Admits, Forks, Merges, TurnsAt}
pub use Rattle.logbook.specs.Pages.{Book, Cell, Goes, Moves, Named, Step, View, cell, keeps, no_nib, step}
pub use lib.ListN.{get_elem?}
pub use mathlib.Core.List.{IsPrefix}
pub use mathlib.Core.Option.{some}
pub use Rattle.cmwq_model.specs.Prelude.{Layout, bits, is_at, is_by, past_of, same_who, serial_of}
unfoldable pub use Rattle.cmwq_model.specs.Prelude.{IsLegal, booking, item_start, queueings}
pub use Rattle.cmwq_model.specs.declared.entry.Entry.{Entry}
pub use Rattle.cmwq_model.specs.declared.entry.Mark.{Mark}
pub use Rattle.cmwq_model.specs.declared.id.CallerId.{CallerId}
pub use Rattle.cmwq_model.specs.declared.id.ItemId.{ItemId}
pub use Rattle.cmwq_model.specs.declared.id.Who.{Who}
pub use Rattle.cmwq_model.specs.declared.id.Who.TheVariants.{Caller, Worker}
