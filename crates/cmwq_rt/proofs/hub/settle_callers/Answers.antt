use Rattle.cmwq_rt.specs.Common.{arith, get_or, slice_get-get_or}
use Rattle.cmwq_rt.proofs.Settling.{done_more, left_more, done_all}
use Rattle.cmwq_rt.proofs.hub.settle_callers.Goals as goal

pub loop-caller-preserved : goal.loop-caller-preserved
loop-caller-preserved g c =
    let i = c.loop-caller.invariant in
    let x = get_or c.loop-caller.callers c.loop-caller.caller-index c.caller-item.result in (
      done_more c.args.monitor.now.history c.args.callers.now c.loop-caller.callers c.loop-caller.caller-index x
          c.settle.new.self
          (slice_get-get_or c.loop-caller.callers c.loop-caller.caller-index c.caller-item.result
          (omega (arith, c.loop-caller-test.true, c.loop-caller.auto.callers)))
          c.in_ok-settle.ensures.settled i.0 i.1,
      left_more c.args.callers.now c.loop-caller.callers c.loop-caller.caller-index c.settle.new.self i.1,
    )

pub returns-clause-settled : goal.returns-clause-settled
returns-clause-settled g c =
    done_all c.args.monitor.now.history c.args.callers.now c.loop-caller.callers c.loop-caller.caller-index
    c.loop-caller-test.false c.loop-caller.invariant.0
