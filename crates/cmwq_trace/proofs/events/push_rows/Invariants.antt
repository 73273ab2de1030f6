use Rattle.std.proofs.Common.{◌≡◌, ◌++◌, map}
use Rattle.std.specs.List.{range_with_len}
use Rattle.cmwq_trace.specs.declared.event.Event.TheVariants.{Row}
use Rattle.cmwq_trace.proofs.events.push_rows.Given as goal

abbrev pub invariant-loop-row : goal.invariant-loop-row
invariant-loop-row l = (l.events).items
    ≡ (l.initial.events).items ++ map (Row l.lane.caller) (range_with_len 0 l.row)
