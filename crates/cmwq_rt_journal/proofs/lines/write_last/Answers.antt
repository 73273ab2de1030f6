use Rattle.cmwq_rt_journal.specs.Common.{err_from_is_err_and, Appends-trans, front_before, front_after, front_whole}
use Rattle.cmwq_rt_journal.specs.Common.{last_text}
use Rattle.cmwq_rt_journal.proofs.lines.write_last.Goals as goal

pub returns-in_err-write_entries-clause-err : goal.returns-in_err-write_entries-clause-err
returns-in_err-write_entries-clause-err g c =
    let p = err_from_is_err_and c.from_residual.result c.from_residual.ensures.1 in
    rw (p.1) (front_before _ _ _ (last_text 3 c.args.all) c.in_err-write_entries.ensures.err)

pub returns-in_err-write_end-clause-err : goal.returns-in_err-write_end-clause-err
returns-in_err-write_end-clause-err g c =
    let p = err_from_is_err_and c.from_residual-in_err-write_end.result c.from_residual-in_err-write_end.ensures.1 in
    rw (p.1) (front_after _ _ _ _ _ c.in_ok-write_entries.ensures.ok c.in_err-write_end.ensures.err)

pub returns-in_err-flush_all-clause-err : goal.returns-in_err-flush_all-clause-err
returns-in_err-flush_all-clause-err g c =
    let p = err_from_is_err_and c.from_residual-in_err-flush_all.result c.from_residual-in_err-flush_all.ensures.1 in
    let whole = Appends-trans _ _ _ _ _ c.in_ok-write_entries.ensures.ok c.in_ok-write_end.ensures.ok in
    rw (p.1) (front_whole _ _ _ _ whole c.in_err-flush_all.ensures.bytes)
