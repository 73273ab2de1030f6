-- The most that was ever open and active of a queue on a CPU: the greatest of what was so after any front of the
-- history.
use Rattle.cmwq_model.specs.Prelude.{most_cpus}
use Rattle.std.specs.Prelude.{◌≡◌, ℕ, ◌-◌, ◌/◌, ◌%◌, ◌<◌, max, List, [], ◌∷◌, length, count_by, slice_index, slice_set}
use Rattle.std.specs.Prelude.{Option, Some, None}
use Rattle.cmwq_model.specs.declared.entry.Entry.{Entry}
use Rattle.cmwq_model.specs.Prelude.{Layout, still_open}
use Rattle.cmwq_theory_steps.specs.Places.{is_on}
use Rattle.cmwq_state.specs.Pwqs.{active_on}

-- the greatest of a measure over all fronts
unfoldable pub peak : (List Entry → ℕ) → List Entry → ℕ
peak measure [] = measure []
peak measure (e ∷ past) = max (peak measure past) (measure (e ∷ past))

-- how many are open on the queue and CPU with this number, and how many of them are active
abbrev pub open_count_at : ℕ → List Entry → ℕ
open_count_at p past = count_by (is_on (p / most_cpus) (p % most_cpus)) (still_open past)

abbrev pub active_count_at : Layout → ℕ → List Entry → ℕ
active_count_at s p past = active_on s past (p / most_cpus) (p % most_cpus)

-- the most that ever were
abbrev pub most_open_at : ℕ → List Entry → ℕ
most_open_at p past = peak (open_count_at p) past

abbrev pub most_active_at : Layout → ℕ → List Entry → ℕ
most_active_at s p past = peak (active_count_at s p) past

-- ---- a table has what a measure gives of each number

pub record AreMeasured (measure : ℕ → List Entry → ℕ) (many : ℕ) (past : List Entry) (counts : List ℕ) : Type 0 where
  pub many_are : length counts ≡ many
  pub each : (k : ℕ) → k < many → slice_index counts k ≡ measure k past

-- the table with one less under this number, where it has that
abbrev pub without_one : List ℕ → Option ℕ → List ℕ
without_one counts None = counts
without_one counts (Some k) = slice_set counts k (slice_index counts k - 1)

-- the table with no less under this number than another has there
abbrev pub raised_at : List ℕ → Option ℕ → List ℕ → List ℕ
raised_at counts None others = counts
raised_at counts (Some k) others = slice_set counts k (max (slice_index counts k) (slice_index others k))

-- the same under each number
pub record AreRaised (old new others : List ℕ) : Type 0 where
  pub many_are : length new ≡ length old
  pub each : (k : ℕ) → k < length old → slice_index new k ≡ max (slice_index old k) (slice_index others k)
