-- The history as a log that only grows.
use Rattle.std.specs.Prelude.{◌≡◌, ◌==◌, ◌∷◌, ◌++◌}
use Rattle.cmwq_publish.specs.Common.{ℕ, true, List, [], length, MatchBool, Cell, Step, View, Book, Named, Entry}

-- the first word is the length of the log. A book has two words, of which this one leaves the second at 0
abbrev pub IsLogKept : List Cell → List Entry → Type 0
IsLogKept cells log = cells ≡ (length log, true) ∷ (0, true) ∷ []

abbrev pub head_of : Book → Named
head_of b = record { tracked = true; key = 0; book = b }

-- the entry was added to all that had been seen; or the log was longer
abbrev pub Adds : Step Entry → View Entry ℕ → ℕ → View Entry ℕ → Type 0
Adds s v found w = MatchBool (found == s.old) (w.0 ≡ v.0 ++ s.ask ∷ []) (length w.0 ≡ found)
