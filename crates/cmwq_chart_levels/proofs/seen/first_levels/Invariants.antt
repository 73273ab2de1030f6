use Rattle.std.proofs.Common.{◌≡◌, []}
use Rattle.std.specs.Prelude.{flat_map}
use Rattle.std.specs.List.{range_with_len}
use Rattle.cmwq_chart.specs.Levels.{levels_left, places_of_queue}
use Rattle.cmwq_chart_levels.proofs.seen.first_levels.Given as goal

abbrev pub invariant-loop-queue : goal.invariant-loop-queue
invariant-loop-queue l = (l.levels).items
    ≡ levels_left l.shape [] (flat_map (places_of_queue l.shape) (range_with_len 0 l.queue))
