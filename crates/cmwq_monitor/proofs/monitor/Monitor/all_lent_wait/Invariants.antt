use Rattle.std.proofs.Common.{◌≡◌, ◌<◌, ◌≤◌, true, ℕ}
use Rattle.cmwq_model.specs.Prelude.{past_of}
use Rattle.cmwq_monitor.specs.Held.{caller_waits}
use Rattle.cmwq_monitor.proofs.monitor.Monitor.all_lent_wait.Given as goal

abbrev pub invariant-loop-caller : goal.invariant-loop-caller
invariant-loop-caller g l =
    (l.self.first_lent ≤ l.caller)
    × ((k : ℕ) → l.self.first_lent ≤ k → k < l.caller → caller_waits (past_of l.self.history) k ≡ true)
