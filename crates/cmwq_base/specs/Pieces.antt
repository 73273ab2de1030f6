-- A text by its line feeds.
use Rattle.std.specs.Prelude.{◌∷◌, ◌++◌}
use Rattle.cmwq_base.specs.Common.{ℕ, List, [], slice_split, is_feed}

-- the lines of a text, and after them what stands after the last line feed
abbrev pub pieces : List ℕ → List (List ℕ)
pieces text = slice_split is_feed text

-- all pieces but the last, each with a line feed after it, and the last
unfoldable pub lines_in : List (List ℕ) → List ℕ
lines_in [] = []
lines_in (last ∷ []) = []
lines_in (line ∷ more ∷ rest) = (line ++ 10 ∷ []) ++ lines_in (more ∷ rest)

unfoldable pub last_in : List (List ℕ) → List ℕ
last_in [] = []
last_in (last ∷ []) = last
last_in (line ∷ more ∷ rest) = last_in (more ∷ rest)

-- the whole lines of a text, and what stands after them
abbrev pub whole_lines : List ℕ → List ℕ
whole_lines text = lines_in (pieces text)

abbrev pub cut_line : List ℕ → List ℕ
cut_line text = last_in (pieces text)
