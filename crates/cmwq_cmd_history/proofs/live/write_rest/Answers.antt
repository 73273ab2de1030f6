use Rattle.cmwq_cmd_history.specs.Common.{err_from_is_err_and, Appends-trans, front_before, front_after, front_whole}
use Rattle.cmwq_cmd_history.specs.Common.{last_text, length}
use Rattle.cmwq_cmd_history.specs.Live.{live_steps}
use Rattle.cmwq_cmd_history.proofs.live.write_rest.Goals as goal

pub returns-in_err-write_missing_head-clause-err : goal.returns-in_err-write_missing_head-clause-err
returns-in_err-write_missing_head-clause-err g c =
    let p = err_from_is_err_and c.from_residual.result c.from_residual.ensures.1 in
    rw (p.1) (front_before _ _ _
    (last_text c.args.version (length (live_steps c.args.calls.now.layout c.args.calls.now.calls).steps.past))
    c.in_err-write_missing_head.ensures.err)

pub returns-in_err-write_end-clause-err : goal.returns-in_err-write_end-clause-err
returns-in_err-write_end-clause-err g c =
    let p = err_from_is_err_and c.from_residual-in_err-write_end.result c.from_residual-in_err-write_end.ensures.1 in
    rw (p.1) (front_after _ _ _ _ _ c.in_ok-write_missing_head.ensures.ok
    (rw c.entries.ensures at c.in_err-write_end.ensures.err))

pub returns-in_err-flush_all-clause-err : goal.returns-in_err-flush_all-clause-err
returns-in_err-flush_all-clause-err g c =
    let p = err_from_is_err_and c.from_residual-in_err-flush_all.result c.from_residual-in_err-flush_all.ensures.1 in
    rw (p.1) (front_whole _ _ _ _
    (Appends-trans _ _ _ _ _ c.in_ok-write_missing_head.ensures.ok
    (rw c.entries.ensures at c.in_ok-write_end.ensures.ok)) c.in_err-flush_all.ensures.bytes)
