use Rattle.cmwq_sim.specs.Plan.{plan_of}
use Rattle.cmwq_sim.proofs.Within.{makes_a_shape}
use Rattle.cmwq_sim.proofs.execution.shape_of.Goals as goal

pub unreachable-requires : goal.unreachable-requires
unreachable-requires c =
    let fine = makes_a_shape (plan_of c.args.scenario.now) c.requires in
    let made = rw c.in_ok-queues.ensures at c.in-None.ensures.allowed in
    cc
