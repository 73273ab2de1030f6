use Rattle.cmwq_chart_levels.proofs.Places.{queue_first}
use Rattle.cmwq_chart_levels.proofs.seen.first_levels.Goals as goal

pub loop-queue-preserved : goal.loop-queue-preserved
loop-queue-preserved c =
    queue_first c.args.shape.now c.loop-queue.queue _ _ c.loop-queue.invariant c.in_ok-push_queue.ensures
