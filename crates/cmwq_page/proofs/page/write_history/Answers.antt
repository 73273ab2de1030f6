use Rattle.std.proofs.Common.{◌++◌}
use Rattle.std.proofs.lemmas.Result.{err_from_is_err_and}
use Rattle.cmwq_base.proofs.Fronts.{front_before, front_after}
use Rattle.cmwq_page.specs.Entries.{entries_text}
use Rattle.cmwq_page.specs.PageText.{history_text, queues_text, shapes_text}
use Rattle.cmwq_page.proofs.page.write_history.Goals as goal

pub returns-in_err-write_first-clause-err : goal.returns-in_err-write_first-clause-err
unfolding history_text
returns-in_err-write_first-clause-err g c =
    let p = err_from_is_err_and c.from_residual.result c.from_residual.ensures.1 in
    let shapes = c.args.shapes.now in
    rw (p.1) (front_before _ _ _
    (queues_text c.args.shape.now
    ++ (entries_text c.args.entries.now
    ++ shapes_text shapes.callers.waits.items shapes.bars.items shapes.sleeps.items shapes.levels.items))
    c.in_err-write_first.ensures.err)

pub returns-in_err-write_rows-clause-err : goal.returns-in_err-write_rows-clause-err
unfolding history_text
returns-in_err-write_rows-clause-err g c =
    let p = err_from_is_err_and c.from_residual-in_err-write_rows.result
    c.from_residual-in_err-write_rows.ensures.1 in
    let shapes = c.args.shapes.now in
    rw (p.1) (front_after _ _ _ _ _ c.in_ok-write_first.ensures.ok
    (front_before _ _ _
    (entries_text c.args.entries.now
    ++ shapes_text shapes.callers.waits.items shapes.bars.items shapes.sleeps.items shapes.levels.items)
    (rw (c.queues.ensures) at c.in_err-write_rows.ensures.err)))

pub returns-in_err-write_entries-clause-err : goal.returns-in_err-write_entries-clause-err
unfolding history_text
returns-in_err-write_entries-clause-err g c =
    let p = err_from_is_err_and c.from_residual-in_err-write_entries.result
    c.from_residual-in_err-write_entries.ensures.1 in
    let shapes = c.args.shapes.now in
    rw (p.1) (front_after _ _ _ _ _ c.in_ok-write_first.ensures.ok
    (front_after _ _ _ _ _ (rw (c.queues.ensures) at c.in_ok-write_rows.ensures.ok)
    (front_before _ _ _
    (shapes_text shapes.callers.waits.items shapes.bars.items shapes.sleeps.items shapes.levels.items)
    c.in_err-write_entries.ensures.err)))

pub returns-in_err-write_shapes-clause-err : goal.returns-in_err-write_shapes-clause-err
unfolding history_text
returns-in_err-write_shapes-clause-err g c =
    let p = err_from_is_err_and c.from_residual-in_err-write_shapes.result
    c.from_residual-in_err-write_shapes.ensures.1 in
    rw (p.1) (front_after _ _ _ _ _ c.in_ok-write_first.ensures.ok
    (front_after _ _ _ _ _ (rw (c.queues.ensures) at c.in_ok-write_rows.ensures.ok)
    (front_after _ _ _ _ _ c.in_ok-write_entries.ensures.ok c.in_err-write_shapes.ensures.err)))
