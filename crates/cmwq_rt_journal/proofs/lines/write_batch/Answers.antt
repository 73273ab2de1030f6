use Rattle.cmwq_rt_journal.specs.Common.{err_from_is_err_and, front_whole}
use Rattle.cmwq_rt_journal.proofs.lines.write_batch.Goals as goal

pub returns-in_err-flush_all-clause-err : goal.returns-in_err-flush_all-clause-err
returns-in_err-flush_all-clause-err g c =
    let p = err_from_is_err_and c.from_residual-in_err-flush_all.result c.from_residual-in_err-flush_all.ensures.1 in
    rw (p.1) (front_whole _ _ _ _ c.in_ok-write_entries.ensures.ok c.in_err-flush_all.ensures.bytes)
