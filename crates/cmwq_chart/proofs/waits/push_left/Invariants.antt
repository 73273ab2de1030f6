use Rattle.std.proofs.Common.{◌≡◌, ◌++◌}
use Rattle.std.specs.Prelude.{flat_map}
use Rattle.std.specs.List.{range_with_len}
use Rattle.cmwq_chart.specs.CallerWaits.{wait_left}
use Rattle.cmwq_chart.proofs.waits.push_left.Given as goal

abbrev pub invariant-loop-row : goal.invariant-loop-row
invariant-loop-row l = (l.waits).items ≡ (l.initial.waits).items
    ++ flat_map (wait_left l.rows l.caller) (range_with_len 0 l.row)
