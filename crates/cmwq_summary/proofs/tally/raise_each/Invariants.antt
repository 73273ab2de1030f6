use Rattle.std.proofs.Common.{◌≡◌, ◌<◌, ◌≤◌, ℕ, length, max}
use Rattle.std.specs.Prelude.{slice_index}
use Rattle.cmwq_summary.proofs.tally.raise_each.Given as goal

-- those below k are raised, and the others are as they were
abbrev pub invariant-loop-k : goal.invariant-loop-k
invariant-loop-k l = record {
  long : length (l.counts).items ≡ length (l.initial.counts).items;
  raised : (j : ℕ) → j < l.k
      → slice_index (l.counts).items j ≡ max (slice_index (l.initial.counts).items j) (slice_index l.others j);
  others : (j : ℕ) → l.k ≤ j → slice_index (l.counts).items j ≡ slice_index (l.initial.counts).items j;
}
