use Rattle.std.proofs.Common.{◌≡◌, ◌<◌, ◌≤◌, ℕ, length}
use Rattle.cmwq_summary.specs.Counters.{counter_at, counts_at}
use Rattle.cmwq_summary.specs.Figures.{key_from}
use Rattle.cmwq_summary.specs.Tallies.{with_one}
use Rattle.cmwq_summary.specs.declared.counter.TheConstants.{COUNTERS}
use Rattle.cmwq_summary.proofs.counters.count_each.Given as goal

-- the tables before this one are added to, and the others are as they were
abbrev pub invariant-loop-at : goal.invariant-loop-at
invariant-loop-at l = record {
  long : length (l.tallies).items ≡ length COUNTERS;
  added : (j : ℕ) → j < l.at → counts_at (l.tallies).items j
      ≡ with_one (counts_at (l.initial.tallies).items j) (key_from (counter_at j) l.effect);
  others : (j : ℕ) → l.at ≤ j → counts_at (l.tallies).items j ≡ counts_at (l.initial.tallies).items j;
}
