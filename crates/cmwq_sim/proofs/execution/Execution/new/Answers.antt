use Rattle.std.proofs.Common.{refl}
use Rattle.cmwq_sim.specs.Plan.{plan_of}
use Rattle.cmwq_sim.proofs.Executions.{outset}
use Rattle.cmwq_sim.proofs.execution.Execution.new.Goals as goal

pub returns : goal.returns
returns c =
    outset (plan_of c.args.scenario.now) _ c.requires c.queue_all.ensures.layout c.queue_all.ensures.room
    (c.queue_all.ensures.shows _) c.queue_all.ensures.roomy refl c.new-2.ensures.items c.new-3.ensures.items
    c.new-4.ensures.items
