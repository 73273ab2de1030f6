use Rattle.std.proofs.Common.{◌≡◌, [], ◌++◌, map}
use Rattle.std.specs.List.{range_with_len}
use Rattle.cmwq_chart.specs.Levels.{levels_left, place_on}
use Rattle.cmwq_chart_levels.proofs.seen.push_queue.Given as goal

abbrev pub invariant-loop-cpu : goal.invariant-loop-cpu
invariant-loop-cpu l = (l.levels).items ≡ (l.initial.levels).items
    ++ levels_left l.shape [] (map (place_on l.queue) (range_with_len 0 l.cpu))
