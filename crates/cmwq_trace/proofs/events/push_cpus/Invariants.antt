use Rattle.std.proofs.Common.{◌≡◌, ◌++◌, map}
use Rattle.std.specs.List.{range_with_len}
use Rattle.cmwq_trace.specs.Events.{cpu_event}
use Rattle.cmwq_trace.proofs.events.push_cpus.Given as goal

abbrev pub invariant-loop-cpu : goal.invariant-loop-cpu
invariant-loop-cpu l = (l.events).items ≡ (l.initial.events).items ++ map cpu_event (range_with_len 0 l.cpu)
