use Rattle.std.proofs.Common.{◌≡◌, ◌++◌, take}
use Rattle.std.specs.Prelude.{flat_map}
use Rattle.cmwq_trace.specs.Events.{caller_events}
use Rattle.cmwq_trace.proofs.events.push_callers.Given as goal

abbrev pub invariant-loop-lane : goal.invariant-loop-lane
invariant-loop-lane l = l.events.items ≡ l.initial.events.items ++ flat_map caller_events (take l.lane-index l.callers)
