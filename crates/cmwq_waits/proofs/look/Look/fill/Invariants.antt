use Rattle.std.proofs.Common.{◌<◌, ℕ}
use Rattle.cmwq_waits.specs.Looks.{LeavesSome}
use Rattle.cmwq_waits.proofs.look.Look.fill.Given as goal

abbrev pub invariant-loop-cpu : goal.invariant-loop-cpu
invariant-loop-cpu l = (k : ℕ) → k < l.cpu → LeavesSome l.self l.set l.queue k
