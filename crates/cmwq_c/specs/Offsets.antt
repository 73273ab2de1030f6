-- Where the fields of a struct lie in memory, in bytes from its start, by the kit's own definition of what lies where.
use Rattle.cmwq_c.specs.Common.{Ty, RattleType, layout}
use Rattle.std.specs.Prelude.{◌≡◌, ℕ, List, [], ◌∷◌, ◌+◌}
use mathlib.Core.Option.{Option, none, some}
use prog.Memory.{field_of}

abbrev LiesAt : Option (Ty × ℕ) → ℕ → Type 0
LiesAt none offset = ⊥
LiesAt (some field) offset = field.1 ≡ offset

-- the fields from this number on lie here, and there are no more
abbrev LieFrom : ℕ → RattleType → List ℕ → Type 0
LieFrom number row [] = field_of (layout row) number ≡ none
LieFrom number row (offset ∷ offsets) = LiesAt (field_of (layout row) number) offset × LieFrom (number + 1) row offsets

-- the fields lie here, in the order in which they are written
abbrev pub FieldsLieAt : RattleType → List ℕ → Type 0
FieldsLieAt row offsets = LieFrom 0 row offsets
