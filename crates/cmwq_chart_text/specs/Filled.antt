-- Texts with numbers in them: in a template each `$` stands for the next of a list of numbers, and each `~` for the
-- character that the next is.
use Rattle.std.specs.Prelude.{ℕ, ◌+◌, ◌%◌, ◌==◌, Bool, ◌||◌, if◌then◌else◌, List, [], ◌∷◌, ◌++◌, decimal}
use Rattle.std.specs.Prelude.{slice_index_or}

abbrev pub is_hole : ℕ → Bool
is_hole c = (c == 36) || (c == 126)

-- what stands for a character of a template, where this number is the next
abbrev pub piece : ℕ → ℕ → List ℕ
piece c n = if c == 36 then decimal n else if c == 126 then n % 256 ∷ [] else c ∷ []

-- after the first k numbers, and after the last the next is 0
unfoldable pub filled_from : List ℕ → List ℕ → ℕ → List ℕ
filled_from [] numbers k = []
filled_from (c ∷ template) numbers k = piece c (slice_index_or numbers k 0)
    ++ filled_from template numbers (k + (if is_hole c then 1 else 0))

abbrev pub filled_template : List ℕ → List ℕ → List ℕ
filled_template template numbers = filled_from template numbers 0

-- how many characters stand before the first hole
unfoldable pub plain_length : List ℕ → ℕ
plain_length [] = 0
plain_length (c ∷ template) = if is_hole c then 0 else 1 + plain_length template
