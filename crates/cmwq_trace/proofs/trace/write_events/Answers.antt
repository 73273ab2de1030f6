use Rattle.std.proofs.Common.{arith}
use Rattle.std.proofs.lemmas.Result.{err_from_is_err_and}
use Rattle.cmwq_base.proofs.Fronts.{front_at}
use Rattle.cmwq_trace.specs.Events.{event_text}
use Rattle.cmwq_trace.proofs.trace.write_events.Goals as goal

pub returns-in_err-write_event-clause-err : goal.returns-in_err-write_event-clause-err
returns-in_err-write_event-clause-err g c =
    let p = err_from_is_err_and c.from_residual.result c.from_residual.ensures.1 in
    rw (p.1) (front_at (event_text c.args.end) c.args.events.now c.loop-event.event-index _ _ _ _ (omega arith)
    c.loop-event.invariant.text c.in_err-write_event.ensures.err)
