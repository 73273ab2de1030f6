use Rattle.cmwq_rt.specs.Common.{arith, get_or, slice_get-get_or}
use Rattle.cmwq_rt.proofs.Settling.{done_more, left_more, done_all}
use Rattle.cmwq_rt.proofs.hub.settle_workers.Goals as goal

pub loop-worker-preserved : goal.loop-worker-preserved
loop-worker-preserved g c =
    let i = c.loop-worker.invariant in
    let x = get_or c.loop-worker.workers c.loop-worker.worker-index c.worker-item.result in (
      done_more c.args.monitor.now.history c.args.workers.now c.loop-worker.workers c.loop-worker.worker-index x
          c.settle.new.self
          (slice_get-get_or c.loop-worker.workers c.loop-worker.worker-index c.worker-item.result
          (omega (arith, c.loop-worker-test.true, c.loop-worker.auto.workers)))
          c.in_ok-settle.ensures.settled i.0 i.1,
      left_more c.args.workers.now c.loop-worker.workers c.loop-worker.worker-index c.settle.new.self i.1,
    )

pub returns-clause-settled : goal.returns-clause-settled
returns-clause-settled g c =
    done_all c.args.monitor.now.history c.args.workers.now c.loop-worker.workers c.loop-worker.worker-index
    c.loop-worker-test.false c.loop-worker.invariant.0
