use Rattle.cmwq_waits.specs.HeldUp.{awaits}
use Rattle.cmwq_waits.proofs.Loops.{NoneBelow}
use Rattle.cmwq_waits.specs.declared.run_wait.RunWait.{RunWait}
use Rattle.cmwq_waits.proofs.look.Look.awaits_one.Given as goal

abbrev pub invariant-loop-wait : goal.invariant-loop-wait
invariant-loop-wait l = NoneBelow (λ (w : RunWait). awaits l.self.past l.ticket w.run) l.set l.wait-index
