use Rattle.std.proofs.Common.{sym, ap, subst, ◌∙◌}
use Rattle.cmwq_sim.specs.Plan.{plan_of}
use Rattle.cmwq_sim.specs.Lines.{wake_item}
use Rattle.cmwq_sim.specs.Standing.{moment_in, StandsAt}
use Rattle.cmwq_sim.proofs.Executions.{one_more}
use Rattle.cmwq_sim.proofs.execution.Execution.wake.Goals as goal

pub loop-item-preserved : goal.loop-item-preserved
loop-item-preserved c =
    subst (StandsAt (plan_of c.args.scenario.now) _)
    (ap (λ m. wake_item (plan_of c.args.scenario.now) c.args.at m c.loop-item.item) c.loop-item.invariant.moment
    ∙ sym (one_more (wake_item (plan_of c.args.scenario.now) c.args.at)
    (moment_in (plan_of c.args.scenario.now) c.args.self.now) c.loop-item.item)) c.in_ok-wake_item.ensures
