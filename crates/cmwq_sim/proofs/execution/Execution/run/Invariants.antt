use Rattle.cmwq_sim.specs.Plan.{plan_of}
use Rattle.cmwq_sim.specs.Ends.{moment_after}
use Rattle.cmwq_sim.specs.Standing.{StandsAt}
use Rattle.cmwq_sim.proofs.execution.Execution.run.Given as goal

abbrev pub invariant-loop-at : goal.invariant-loop-at
invariant-loop-at l = StandsAt (plan_of l.scenario) l.self (moment_after (plan_of l.scenario) l.at)
