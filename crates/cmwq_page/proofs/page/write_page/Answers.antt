use Rattle.std.proofs.Common.{◌++◌}
use Rattle.std.proofs.lemmas.Result.{err_from_is_err_and}
use Rattle.std.proofs.KnownBytes.{Appends-trans, Appends-kept}
use Rattle.cmwq_base.proofs.Fronts.{front_before, front_after, front_whole}
use Rattle.cmwq_page.specs.declared.source.TheConstants.{TAIL}
use Rattle.cmwq_page.specs.PageText.{history_text, page_text}
use Rattle.cmwq_page.proofs.page.write_page.Goals as goal

pub returns-in_err-write_all-clause-err : goal.returns-in_err-write_all-clause-err
unfolding page_text
returns-in_err-write_all-clause-err g c =
    let p = err_from_is_err_and c.from_residual.result c.from_residual.ensures.1 in
    let shapes = c.args.shapes.now in
    rw (p.1) (front_before _ _ _
    (history_text c.args.shape.now c.args.entries.now shapes.callers.waits.items shapes.bars.items shapes.sleeps.items
    shapes.levels.items c.args.window ++ TAIL.now)
    (rw (c.as_bytes.ensures.value) at c.in_err-write_all.ensures.err))

pub returns-in_err-write_history-clause-err : goal.returns-in_err-write_history-clause-err
unfolding page_text
returns-in_err-write_history-clause-err g c =
    let p = err_from_is_err_and c.from_residual-in_err-write_history.result
    c.from_residual-in_err-write_history.ensures.1 in
    rw (p.1) (front_after _ _ _ _ _ (rw (c.as_bytes.ensures.value) at c.in_ok-write_all.ensures.ok)
    (front_before _ _ _ TAIL.now c.in_err-write_history.ensures.err))

pub returns-in_err-write_all-2-clause-err : goal.returns-in_err-write_all-2-clause-err
unfolding page_text
returns-in_err-write_all-2-clause-err g c =
    let p = err_from_is_err_and c.from_residual-in_err-write_all-2.result
    c.from_residual-in_err-write_all-2.ensures.1 in
    rw (p.1) (front_after _ _ _ _ _ (rw (c.as_bytes.ensures.value) at c.in_ok-write_all.ensures.ok)
    (front_after _ _ _ _ _ c.in_ok-write_history.ensures.ok
    (rw (c.as_bytes-2.ensures.value) at c.in_err-write_all-2.ensures.err)))

pub returns-in_err-flush_all-clause-err : goal.returns-in_err-flush_all-clause-err
unfolding page_text
returns-in_err-flush_all-clause-err g c =
    let p = err_from_is_err_and c.from_residual-in_err-flush_all.result c.from_residual-in_err-flush_all.ensures.1 in
    rw (p.1) (front_whole _ _ _ _
    (Appends-trans _ _ _ _ _ (rw (c.as_bytes.ensures.value) at c.in_ok-write_all.ensures.ok)
    (Appends-trans _ _ _ _ _ c.in_ok-write_history.ensures.ok
    (rw (c.as_bytes-2.ensures.value) at c.in_ok-write_all-2.ensures.ok))) c.in_err-flush_all.ensures.bytes)

pub returns-clause-ok : goal.returns-clause-ok
unfolding page_text
returns-clause-ok g c =
    Appends-kept _ _ _ _
    (Appends-trans _ _ _ _ _ (rw (c.as_bytes.ensures.value) at c.in_ok-write_all.ensures.ok)
    (Appends-trans _ _ _ _ _ c.in_ok-write_history.ensures.ok
    (rw (c.as_bytes-2.ensures.value) at c.in_ok-write_all-2.ensures.ok))) c.in_ok-flush_all.ensures.bytes
