use Rattle.std.proofs.Common.{ℕ, ◌≡◌, ◌+◌}
use Rattle.cmwq_play.specs.Machines.{fired}
use Rattle.cmwq_play.proofs.machine.Machine.fire_all.Given as goal

abbrev pub invariant-loop : goal.invariant-loop
invariant-loop l = (n : ℕ) → l.counter + n ≡ l.fn.self.layout.items
    → fired n l.self l.fn.who ≡ fired l.fn.self.layout.items l.fn.self l.fn.who
