use Rattle.cmwq_sim.specs.Plan.{plan_of}
use Rattle.cmwq_sim.proofs.Executions.{QueuedSoFar}
use Rattle.cmwq_sim.proofs.execution.queue_all.Given as goal

abbrev pub invariant-loop-item : goal.invariant-loop-item
invariant-loop-item l = QueuedSoFar (plan_of l.scenario) l.book l.item
