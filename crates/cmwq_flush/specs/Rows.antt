-- Open queueings with their colours, and how many have each.
use Rattle.std.specs.Prelude.{◌≡◌, ◌<◌, ◌==◌, ◌++◌, ◌∷◌, [], slice_index_or, slice_set}
use Rattle.cmwq_flush.specs.Common.{ℕ, Bool, not, List, length, map, filter, All, AllPairs, count_by, slice_index}
use Rattle.cmwq_flush.specs.declared.openings.Row.{Row}
use Rattle.cmwq_flush.specs.ItemNumbers.{numbers_with, numbers_without}

abbrev pub number_of_row : Row → ℕ
number_of_row r = r.number

-- what stands for a row that isn't there
abbrev pub no_row : Row
no_row = record { number = 0; colour = 0 }

abbrev pub row_numbers : List Row → List ℕ
row_numbers rows = map number_of_row rows

abbrev pub ComesBefore : Row → Row → Type 0
ComesBefore r s = r.number < s.number

abbrev pub is_other_row : ℕ → Row → Bool
is_other_row n r = not (r.number == n)

abbrev pub without_row : ℕ → List Row → List Row
without_row n rows = filter (is_other_row n) rows

abbrev pub has_colour : ℕ → Row → Bool
has_colour c r = r.colour == c

abbrev pub colour_count : ℕ → List Row → ℕ
colour_count c rows = count_by (has_colour c) rows

abbrev pub is_unused : List Row → ℕ → Bool
is_unused rows c = colour_count c rows == 0

-- for each queue the rows of what is open of it, and for each item the numbers that are open, which rise
pub record OpenRows : Type 0 where
  pub rows : List (List Row)
  pub opened : List (List ℕ)

abbrev pub rows_at : List (List Row) → ℕ → List Row
rows_at rows q = slice_index_or rows q []

abbrev pub open_rows_with : OpenRows → ℕ → ℕ → Row → OpenRows
open_rows_with o q i r =
    record { rows = slice_set o.rows q (rows_at o.rows q ++ r ∷ []); opened = numbers_with o.opened i r.number }

abbrev pub open_rows_without : OpenRows → ℕ → ℕ → ℕ → OpenRows
open_rows_without o q i n =
    record { rows = slice_set o.rows q (without_row n (rows_at o.rows q)); opened = numbers_without o.opened i n }

-- by rising number, each with a colour below 16, and the count of each colour
pub record IsTally (rows : List Row) (counts : List ℕ) : Type 0 where
  pub sixteen : length counts ≡ 16
  pub rising : AllPairs ComesBefore rows
  pub coloured : All (λ r. r.colour < 16) rows
  pub exact : (c : ℕ) → c < 16 → slice_index counts c ≡ colour_count c rows
