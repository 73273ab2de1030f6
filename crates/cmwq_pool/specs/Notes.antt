-- The notes of items, as they are kept: the numbers, and beside them whether each is CPU intensive.
use Rattle.std.specs.Prelude.{◌∷◌}
use Rattle.cmwq_pool.specs.Common.{ℕ, Bool, List, []}
use Rattle.cmwq_pool.specs.declared.note.Note.{Note}

abbrev pub notes_of : List ℕ → List Bool → List Note
notes_of (n ∷ numbers) (b ∷ intensive) = record { number = n; intensive = b } ∷ notes_of numbers intensive
notes_of _ _ = []
