-- How many entries of a history there are by some key.
use Rattle.std.specs.Prelude.{◌≡◌, ℕ, ◌+◌, ◌<◌, if◌then◌else◌, List, [], ◌∷◌, length, slice_index, slice_set, Option}
use Rattle.std.specs.Prelude.{Some, None}
use Rattle.cmwq_model.specs.declared.entry.Entry.{Entry}
use Rattle.cmwq_model.specs.Prelude.{is_at}

-- what an entry is counted under, by the past before it: a number, or nothing
abbrev pub Key : Type 0
Key = List Entry → Entry → Option ℕ

-- how many entries are counted under this number
unfoldable pub tally : Key → List Entry → ℕ → ℕ
tally key [] k = 0
tally key (e ∷ past) k = tally key past k + (if is_at (key past e) k then 1 else 0)

-- a table has these counts, each at its number
pub record IsTallyTable (key : Key) (many : ℕ) (past : List Entry) (counts : List ℕ) : Type 0 where
  pub many_are : length counts ≡ many
  pub each : (k : ℕ) → k < many → slice_index counts k ≡ tally key past k

-- the table with one more under this number, where it has that
abbrev pub with_one : List ℕ → Option ℕ → List ℕ
with_one counts None = counts
with_one counts (Some k) = slice_set counts k (slice_index counts k + 1)
