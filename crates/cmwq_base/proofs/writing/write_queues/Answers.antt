use Rattle.cmwq_base.specs.Common.{◌∙◌, arith, err_from_is_err_and, queue_text}
use Rattle.cmwq_base.proofs.Fronts.{front_at}
use Rattle.cmwq_base.proofs.writing.write_queues.Goals as goal

pub returns-in_err-write_all-clause-err : goal.returns-in_err-write_all-clause-err
returns-in_err-write_all-clause-err g c =
    let p = err_from_is_err_and c.from_residual.result c.from_residual.ensures.1 in
    let text = c.as_bytes.ensures ∙ c.queue_line.ensures in
    rw (p.1) (front_at queue_text c.args.queues.now c.loop-queue.queue-index _ _ _ _ (omega arith)
    c.loop-queue.invariant.text (rw text at c.in_err-write_all.ensures.err))
