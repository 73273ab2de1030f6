-- The counts of a history: a table for each counter, in their order.
use Rattle.std.specs.Prelude.{◌≡◌, ◌<◌, ℕ, List, [], length, map, replicate, slice_index, slice_index_or}
use Rattle.cmwq_model.specs.declared.entry.Entry.{Entry}
use Rattle.cmwq_model.specs.Prelude.{Layout}
use Rattle.cmwq_state.specs.declared.effect.Effect.{Effect}
use Rattle.cmwq_summary.specs.declared.counter.Counter.{Counter}
use Rattle.cmwq_summary.specs.declared.counter.Counter.TheVariants.{Calls}
use Rattle.cmwq_summary.specs.declared.counter.TheConstants.{COUNTERS}
use Rattle.cmwq_summary.specs.Figures.{key_from, key_of, keys_of}
use Rattle.cmwq_summary.specs.Tallies.{IsTallyTable, with_one}

abbrev pub counter_at : ℕ → Counter
counter_at j = slice_index_or COUNTERS j Calls

abbrev pub counts_at : List (List ℕ) → ℕ → List ℕ
counts_at tables j = slice_index_or tables j []

abbrev pub no_counts : Layout → List (List ℕ)
no_counts s = map (λ c. replicate (keys_of s c) 0) COUNTERS

-- each has what its counter counts
pub record AreCounted (s : Layout) (past : List Entry) (tables : List (List ℕ)) : Type 0 where
  pub each : (j : ℕ) → j < length COUNTERS
      → IsTallyTable (key_of (counter_at j)) (keys_of s (counter_at j)) past (counts_at tables j)

-- each count has room for one more
abbrev pub HaveRoom : List (List ℕ) → Type 0
HaveRoom tables = (j k : ℕ) → j < length COUNTERS → slice_index (counts_at tables j) k < 9223372036854775808

-- after an entry with this effect
pub record AreAdded (t : Effect) (old new : List (List ℕ)) : Type 0 where
  pub many_are : length new ≡ length COUNTERS
  pub each : (j : ℕ) → j < length COUNTERS
      → counts_at new j ≡ with_one (counts_at old j) (key_from (counter_at j) t)
