use Rattle.std.proofs.Common.{◌≡◌, ◌++◌, take}
use Rattle.std.specs.Prelude.{flat_map}
use Rattle.cmwq_trace.specs.Events.{call_events}
use Rattle.cmwq_trace.proofs.events.push_calls.Given as goal

abbrev pub invariant-loop-sign : goal.invariant-loop-sign
invariant-loop-sign l = l.events.items ≡ l.initial.events.items ++ flat_map call_events (take l.sign-index l.signs)
