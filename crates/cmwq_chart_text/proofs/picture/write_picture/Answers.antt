use Rattle.std.proofs.Common.{◌++◌}
use Rattle.std.proofs.lemmas.Result.{err_from_is_err_and}
use Rattle.std.proofs.KnownBytes.{Appends-trans, Appends-kept}
use Rattle.cmwq_base.proofs.Fronts.{front_before, front_after, front_whole}
use Rattle.cmwq_chart_text.specs.declared.templates.TheConstants.{END}
use Rattle.cmwq_chart_text.specs.PictureText.{parts_text, picture_text}
use Rattle.cmwq_chart_text.proofs.picture.write_picture.Goals as goal

pub returns-in_err-write_head-clause-err : goal.returns-in_err-write_head-clause-err
unfolding picture_text
returns-in_err-write_head-clause-err g c =
    let p = err_from_is_err_and c.from_residual.result c.from_residual.ensures.1 in
    rw (p.1) (front_before _ _ _
    (parts_text c.args.frame.now c.args.entries.now c.args.parts.now ++ END.now)
    (rw (c.saturating_add.ensures) at c.in_err-write_head.ensures.err))

pub returns-in_err-write_parts-clause-err : goal.returns-in_err-write_parts-clause-err
unfolding picture_text
returns-in_err-write_parts-clause-err g c =
    let p = err_from_is_err_and c.from_residual-in_err-write_parts.result
    c.from_residual-in_err-write_parts.ensures.1 in
    rw (p.1) (front_after _ _ _ _ _ (rw (c.saturating_add.ensures) at c.in_ok-write_head.ensures.ok)
    (front_before _ _ _ END.now c.in_err-write_parts.ensures.err))

pub returns-in_err-write_all-clause-err : goal.returns-in_err-write_all-clause-err
unfolding picture_text
returns-in_err-write_all-clause-err g c =
    let p = err_from_is_err_and c.from_residual-in_err-write_all.result c.from_residual-in_err-write_all.ensures.1 in
    rw (p.1) (front_after _ _ _ _ _ (rw (c.saturating_add.ensures) at c.in_ok-write_head.ensures.ok)
    (front_after _ _ _ _ _ c.in_ok-write_parts.ensures.ok
    (rw (c.as_bytes.ensures.value) at c.in_err-write_all.ensures.err)))

pub returns-in_err-flush_all-clause-err : goal.returns-in_err-flush_all-clause-err
unfolding picture_text
returns-in_err-flush_all-clause-err g c =
    let p = err_from_is_err_and c.from_residual-in_err-flush_all.result c.from_residual-in_err-flush_all.ensures.1 in
    rw (p.1) (front_whole _ _ _ _
    (Appends-trans _ _ _ _ _ (rw (c.saturating_add.ensures) at c.in_ok-write_head.ensures.ok)
    (Appends-trans _ _ _ _ _ c.in_ok-write_parts.ensures.ok
    (rw (c.as_bytes.ensures.value) at c.in_ok-write_all.ensures.ok))) c.in_err-flush_all.ensures.bytes)

pub returns-clause-ok : goal.returns-clause-ok
unfolding picture_text
returns-clause-ok g c =
    Appends-kept _ _ _ _
    (Appends-trans _ _ _ _ _ (rw (c.saturating_add.ensures) at c.in_ok-write_head.ensures.ok)
    (Appends-trans _ _ _ _ _ c.in_ok-write_parts.ensures.ok
    (rw (c.as_bytes.ensures.value) at c.in_ok-write_all.ensures.ok))) c.in_ok-flush_all.ensures.bytes
