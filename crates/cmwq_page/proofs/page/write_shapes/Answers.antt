use Rattle.std.proofs.Common.{◌++◌}
use Rattle.std.proofs.lemmas.Result.{err_from_is_err_and}
use Rattle.cmwq_base.proofs.Fronts.{front_before, front_after}
use Rattle.cmwq_page.specs.PageText.{runs_text, sleeps_text, levels_text}
use Rattle.cmwq_page.proofs.page.write_shapes.Goals as goal

pub returns-in_err-write_rows-clause-err : goal.returns-in_err-write_rows-clause-err
returns-in_err-write_rows-clause-err g c =
    let p = err_from_is_err_and c.from_residual.result c.from_residual.ensures.1 in
    let shapes = c.args.shapes.now in
    rw (p.1) (front_before _ _ _
    (runs_text shapes.bars.items ++ (sleeps_text shapes.sleeps.items ++ levels_text shapes.levels.items))
    (rw (c.deref.ensures.value) at c.in_err-write_rows.ensures.err))

pub returns-in_err-write_rows-2-clause-err : goal.returns-in_err-write_rows-2-clause-err
returns-in_err-write_rows-2-clause-err g c =
    let p = err_from_is_err_and c.from_residual-in_err-write_rows-2.result
    c.from_residual-in_err-write_rows-2.ensures.1 in
    let shapes = c.args.shapes.now in
    rw (p.1) (front_after _ _ _ _ _ (rw (c.deref.ensures.value) at c.in_ok-write_rows.ensures.ok)
    (front_before _ _ _ (sleeps_text shapes.sleeps.items ++ levels_text shapes.levels.items)
    (rw (c.deref-2.ensures.value) at c.in_err-write_rows-2.ensures.err)))

pub returns-in_err-write_rows-3-clause-err : goal.returns-in_err-write_rows-3-clause-err
returns-in_err-write_rows-3-clause-err g c =
    let p = err_from_is_err_and c.from_residual-in_err-write_rows-3.result
    c.from_residual-in_err-write_rows-3.ensures.1 in
    rw (p.1) (front_after _ _ _ _ _ (rw (c.deref.ensures.value) at c.in_ok-write_rows.ensures.ok)
    (front_after _ _ _ _ _ (rw (c.deref-2.ensures.value) at c.in_ok-write_rows-2.ensures.ok)
    (front_before _ _ _ (levels_text c.args.shapes.now.levels.items)
    (rw (c.deref-3.ensures.value) at c.in_err-write_rows-3.ensures.err))))

pub returns-in_err-write_rows-4-clause-err : goal.returns-in_err-write_rows-4-clause-err
returns-in_err-write_rows-4-clause-err g c =
    let p = err_from_is_err_and c.from_residual-in_err-write_rows-4.result
    c.from_residual-in_err-write_rows-4.ensures.1 in
    rw (p.1) (front_after _ _ _ _ _ (rw (c.deref.ensures.value) at c.in_ok-write_rows.ensures.ok)
    (front_after _ _ _ _ _ (rw (c.deref-2.ensures.value) at c.in_ok-write_rows-2.ensures.ok)
    (front_after _ _ _ _ _ (rw (c.deref-3.ensures.value) at c.in_ok-write_rows-3.ensures.ok)
    (rw (c.deref-4.ensures.value) at c.in_err-write_rows-4.ensures.err))))
