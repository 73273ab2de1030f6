use Rattle.cmwq_chart_levels.proofs.Places.{one_first}
use Rattle.cmwq_chart_levels.proofs.seen.push_queue.Goals as goal

pub loop-cpu-preserved : goal.loop-cpu-preserved
loop-cpu-preserved c =
    one_first c.args.shape.now c.args.queue c.loop-cpu.cpu _ _ _ _ c.loop-cpu.invariant c.in_ok-push.ensures
    c.first_level.ensures
