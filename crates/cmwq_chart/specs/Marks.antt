-- Tables that mark which numbers the elements of a list have.
use Rattle.std.specs.Prelude.{◌≡◌, ◌<◌, ℕ, Bool, ◌||◌, List, length, Option, Some, option_map, slice_get}
use Rattle.std.specs.List.{list_any}
use Rattle.cmwq_model.specs.Prelude.{is_at}

-- of each number below the table's length it says whether an element has it
abbrev pub AreMarks : {X : Type 0} → (X → Option ℕ) → List X → ℕ → List Bool → Type 0
AreMarks number xs n table =
    (length table ≡ n) × ((k : ℕ) → k < n → slice_get table k ≡ Some (list_any (λ x. is_at (number x) k) xs))

abbrev pub IsMarked : List Bool → List Bool → Option ℕ → Type 0
IsMarked old new number =
    (length new ≡ length old)
    × ((k : ℕ) → k < length old → slice_get new k ≡ option_map (λ before. before || is_at number k) (slice_get old k))
