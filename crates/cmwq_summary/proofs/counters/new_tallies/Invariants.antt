use Rattle.std.proofs.Common.{◌≡◌, length, map, replicate, take}
use Rattle.std.specs.Prelude.{vec_capacity}
use Rattle.cmwq_summary.specs.Figures.{keys_of}
use Rattle.cmwq_summary.specs.declared.counter.TheConstants.{COUNTERS}
use Rattle.cmwq_summary.proofs.counters.new_tallies.Given as goal

-- the tables of the counters so far, and room for all
abbrev pub invariant-loop-counter : goal.invariant-loop-counter
invariant-loop-counter l = record {
  tables : l.tallies.items ≡ map (λ c. replicate (keys_of l.shape c) 0) (take l.counter-index COUNTERS);
  room : vec_capacity l.tallies ≡ length COUNTERS;
}
