use Rattle.cmwq_rt.proofs.Settling.{Done, Left}
use Rattle.cmwq_rt.proofs.hub.settle_workers.Given as goal

abbrev pub invariant-loop-worker : goal.invariant-loop-worker
invariant-loop-worker g l = Done l.fn.monitor.history l.fn.workers l.workers l.worker-index
    × Left l.fn.workers l.workers l.worker-index
