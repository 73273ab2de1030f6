use Rattle.std.proofs.Common.{◌≡◌, ◌++◌, length, map, take, drop}
use Rattle.std.specs.Prelude.{flat_map}
use Rattle.cmwq_history.specs.Steps.{after}
use Rattle.cmwq_chart_levels.specs.Turns.{ended_levels, level_after}
use Rattle.cmwq_chart_levels.proofs.levels.update.Given as goal

abbrev pub invariant-loop-k : goal.invariant-loop-k
invariant-loop-k l = record {
  running : l.running ≡ map (level_after l.step.layout (after l.step)) (take l.k l.initial.running)
      ++ drop l.k l.initial.running;
  levels : (l.levels).items ≡ (l.initial.levels).items
      ++ flat_map (ended_levels l.step.layout l.step.past l.step.entry) (take l.k l.initial.running);
  long : length l.running ≡ length l.initial.running;
}
