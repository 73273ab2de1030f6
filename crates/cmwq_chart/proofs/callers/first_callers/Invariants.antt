use Rattle.std.proofs.Common.{◌≡◌, All, [], map}
use Rattle.std.specs.List.{range_with_len}
use Rattle.cmwq_chart.specs.CallerWaits.{caller_of_number}
use Rattle.cmwq_chart.specs.Intervals.{caller_in, IsCallerKept}
use Rattle.cmwq_chart.proofs.callers.first_callers.Given as goal

abbrev pub invariant-loop-caller : goal.invariant-loop-caller
invariant-loop-caller l = record {
  owners : map caller_in (l.rows).items ≡ map caller_of_number (range_with_len 0 l.caller);
  kept : All (IsCallerKept []) (l.rows).items;
}
