use Rattle.std.proofs.Common.{◌≡◌, ◌≤◌, true}
use Rattle.cmwq_monitor.specs.Participants.{View, is_caller}
use Rattle.cmwq_monitor.specs.Held.{GoesOn, SleepersGoOn}
use Rattle.cmwq_monitor.specs.Steps.{InStep, IsFiring}
use Rattle.cmwq_monitor.proofs.Fired.{FiredUpTo}
use Rattle.cmwq_monitor.proofs.monitor.Monitor.fire_some.Given as goal

abbrev pub invariant-loop : goal.invariant-loop
invariant-loop g l =
    ((v : View) → IsFiring g.N.HubName.layout l.fn.left v l.fn.participant
    → FiredUpTo g.N.HubName.layout l.fn.left l.counter v l.participant)
    × InStep l.self.history l.participant × (is_caller l.participant.who ≡ true) × (l.most ≤ l.fn.left)
    × (l.counter ≤ l.most) × GoesOn l.fn.self l.self × (l.participant.who ≡ l.fn.participant.who)
    × SleepersGoOn l.fn.participant.who l.fn.self l.self l.fn.wakes l.wakes
