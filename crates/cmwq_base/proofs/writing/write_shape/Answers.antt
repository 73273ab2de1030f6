use Rattle.cmwq_base.specs.Common.{◌∙◌, ap, err_from_is_err_and, flat_map, Layout, Appends-trans, counts_in, shape_text}
use Rattle.cmwq_base.specs.Common.{counts_text, queue_text}
use Rattle.cmwq_base.proofs.Fronts.{front_before, front_after}
use Rattle.cmwq_base.proofs.writing.write_shape.Goals as goal

pub returns-in_err-write_all-clause-err : goal.returns-in_err-write_all-clause-err
returns-in_err-write_all-clause-err g c =
    let p = err_from_is_err_and c.from_residual.result c.from_residual.ensures.1 in
    let first = c.as_bytes.ensures ∙ c.version_line.ensures in
    rw (p.1) (front_before _ _ _ (shape_text c.args.shape.now) (rw first at c.in_err-write_all.ensures.err))

pub returns-in_err-write_all-2-clause-err : goal.returns-in_err-write_all-2-clause-err
returns-in_err-write_all-2-clause-err g c =
    let p = err_from_is_err_and c.from_residual-in_err-write_all-2.result
    c.from_residual-in_err-write_all-2.ensures.1 in
    let first = c.as_bytes.ensures ∙ c.version_line.ensures in
    let second = c.as_bytes-2.ensures ∙ c.counts_line.ensures
    ∙ ap (λ (s : Layout). counts_text (counts_in s)) c.counts.ensures.counts in
    rw (p.1) (front_after _ _ _ _ _ (rw first at c.in_ok-write_all.ensures.ok)
    (front_before _ _ _ (flat_map queue_text c.args.shape.now.queues)
    (rw second at c.in_err-write_all-2.ensures.err)))

pub returns-in_err-write_queues-clause-err : goal.returns-in_err-write_queues-clause-err
returns-in_err-write_queues-clause-err g c =
    let p = err_from_is_err_and c.from_residual-in_err-write_queues.result
    c.from_residual-in_err-write_queues.ensures.1 in
    let first = c.as_bytes.ensures ∙ c.version_line.ensures in
    let second = c.as_bytes-2.ensures ∙ c.counts_line.ensures
    ∙ ap (λ (s : Layout). counts_text (counts_in s)) c.counts.ensures.counts in
    rw (p.1) (front_after _ _ _ _ _ (rw first at c.in_ok-write_all.ensures.ok)
    (front_after _ _ _ _ _ (rw second at c.in_ok-write_all-2.ensures.ok)
    (rw c.queues.ensures at c.in_err-write_queues.ensures.err)))

pub returns-clause-ok : goal.returns-clause-ok
returns-clause-ok g c =
    let first = c.as_bytes.ensures ∙ c.version_line.ensures in
    let second = c.as_bytes-2.ensures ∙ c.counts_line.ensures
    ∙ ap (λ (s : Layout). counts_text (counts_in s)) c.counts.ensures.counts in
    Appends-trans _ _ _ _ _ (rw first at c.in_ok-write_all.ensures.ok)
    (Appends-trans _ _ _ _ _ (rw second at c.in_ok-write_all-2.ensures.ok)
    (rw c.queues.ensures at c.in_ok-write_queues.ensures.ok))
