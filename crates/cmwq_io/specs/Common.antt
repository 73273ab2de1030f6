-- What the files of this crate name from outside it, in one import.
pub use Rattle.std.proofs.Common.{Bool, List, None, Option, Some, [], ap, append-nil, append_assoc, arith, cond, drop}
pub use Rattle.std.proofs.Common.{eqb, false, inl, inr, is_some, leb, length, length-append, ltb, not, refl}
pub use Rattle.std.proofs.Common.{slice_range, suc, sym, take, take-append-drop, true, vec_len, zero, ℕ, ◌&&◌, ◌++◌}
pub use Rattle.std.proofs.Common.{◌+◌, ◌-◌, ◌<◌, ◌∙◌, ◌∷◌, ◌≡◌, ◌≤◌}
pub use Rattle.std.proofs.Math.Seq.{take-add}
pub use Rattle.std.proofs.lemmas.List.{drop-append-le, drop-drop, drop-take, length-drop, length-take, length-take-le}
pub use Rattle.std.proofs.lemmas.List.{take-append-le, take_all, take_min, take_rest}
pub use Rattle.std.proofs.lemmas.Result.{err_from_is_err_and}
pub use Rattle.std.specs.Io.KnownBytes.{Appends, Consumes, Keeps, append_known, prepend_known}
pub use Rattle.std.specs.List.{after_first, before_first, position, position_or_len}
pub use Rattle.std.specs.Prelude.{All, IfOk, Result, nat_le, nat_lt, ⊤}
