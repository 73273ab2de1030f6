use Rattle.cmwq_sim.specs.Common.{fold, range_with_len}
use Rattle.cmwq_sim.specs.Plan.{plan_of}
use Rattle.cmwq_sim.specs.Lines.{wake_item}
use Rattle.cmwq_sim.specs.Standing.{moment_in, StandsAt}
use Rattle.cmwq_sim.proofs.execution.Execution.wake.Given as goal

abbrev pub invariant-loop-item : goal.invariant-loop-item
invariant-loop-item l =
    StandsAt (plan_of l.scenario) l.self
    (fold (wake_item (plan_of l.scenario) l.at) (moment_in (plan_of l.scenario) l.fn.self) (range_with_len 0 l.item))
