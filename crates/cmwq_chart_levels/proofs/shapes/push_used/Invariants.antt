use Rattle.std.proofs.Common.{◌≡◌, ◌++◌, filter, take}
use Rattle.cmwq_chart_levels.specs.Seen.{is_level_used}
use Rattle.cmwq_chart_levels.proofs.shapes.push_used.Given as goal

abbrev pub invariant-loop-level : goal.invariant-loop-level
invariant-loop-level l = (l.levels).items
    ≡ (l.initial.levels).items ++ filter (is_level_used l.used) (take l.level-index l.those)
