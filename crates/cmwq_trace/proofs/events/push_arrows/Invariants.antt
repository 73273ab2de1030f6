use Rattle.std.proofs.Common.{◌≡◌, ◌++◌, take}
use Rattle.std.specs.Prelude.{flat_map}
use Rattle.cmwq_trace.specs.Events.{arrow_events}
use Rattle.cmwq_trace.proofs.events.push_arrows.Given as goal

abbrev pub invariant-loop-bar : goal.invariant-loop-bar
invariant-loop-bar l = l.events.items ≡ l.initial.events.items ++ flat_map (arrow_events l.entries) (take l.bar-index l.bars)
