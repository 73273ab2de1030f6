-- What the files of this crate name from outside it, in one import.
pub use Rattle.std.proofs.Common.{List, Option, ap, append_assoc, arith, length, subst, sym, take, ℕ, ◌++◌, ◌+◌, ◌∙◌}
pub use Rattle.std.proofs.Common.{◌≡◌, ◌≤◌}
pub use Rattle.std.proofs.lemmas.Result.{err_from_is_err_and}
pub use Rattle.std.specs.Io.KnownBytes.{Appends}
pub use Rattle.std.specs.Prelude.{Bool, [], false, true}
pub use Rattle.cmwq_base.proofs.Fronts.{front_after, front_at, front_before, front_whole}
pub use Rattle.std.proofs.KnownBytes.{Appends-trans}
pub use Rattle.cmwq_io.specs.Moves.{AppendsFront}
pub use Rattle.cmwq_model.specs.Prelude.{Layout}
pub use Rattle.cmwq_model.specs.declared.entry.Entry.{Entry}
pub use Rattle.cmwq_text.specs.EntryText.{entry_text}
pub use Rattle.cmwq_text.specs.HistoryText.{body_text, entries_text, head_text, last_text}
