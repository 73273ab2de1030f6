use Rattle.std.proofs.Common.{refl}
use Rattle.cmwq_sim.specs.Plan.{plan_of}
use Rattle.cmwq_sim.specs.Standing.{moment_in}
use Rattle.cmwq_sim.proofs.Executions.{started_on, fewer_ready, all_started}
use Rattle.cmwq_sim.proofs.execution.Execution.start.Goals as goal

pub loop-index-smaller : goal.loop-index-smaller
loop-index-smaller c =
    fewer_ready (plan_of c.args.scenario.now) c.loop-index.self c.start_item.new.self c.in-Some.index c.in-Some.item
    c.loop-index.invariant.at.stands c.in-Some.ensures.some c.in_ok-start_item.ensures

pub loop-index-preserved : goal.loop-index-preserved
loop-index-preserved c = rw c.in_ok-push.ensures.items
    (started_on (plan_of c.args.scenario.now) (moment_in (plan_of c.args.scenario.now) c.args.self.now)
    c.loop-index.self c.start_item.new.self c.loop-index.items.items c.in-Some.index c.in-Some.item
    c.loop-index.invariant c.in-Some.ensures.some c.in_ok-start_item.ensures)

pub returns : goal.returns
returns c =
    all_started (plan_of c.args.scenario.now) c.args.at (moment_in (plan_of c.args.scenario.now) c.args.self.now)
    c.loop-index.self _ c.loop-index.items.items c.loop-index.invariant (c.taker.ensures.none (rw c.in_default.is refl))
    refl refl refl refl c.in_ok-tell_starts.ensures
