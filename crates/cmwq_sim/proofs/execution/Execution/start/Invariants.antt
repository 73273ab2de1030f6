use Rattle.std.proofs.Common.{length}
use Rattle.cmwq_sim.specs.Plan.{plan_of}
use Rattle.cmwq_sim.specs.Standing.{moment_in}
use Rattle.cmwq_sim.proofs.Executions.{HaveStarted}
use Rattle.cmwq_sim.proofs.execution.Execution.start.Given as goal

abbrev pub invariant-loop-index : goal.invariant-loop-index
invariant-loop-index l =
    HaveStarted (plan_of l.scenario) (moment_in (plan_of l.scenario) l.fn.self) l.self l.items.items

abbrev pub decreases-loop-index : goal.decreases-loop-index
decreases-loop-index l = length (moment_in (plan_of l.scenario) l.self).ready
