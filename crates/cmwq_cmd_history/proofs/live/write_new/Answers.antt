use Rattle.cmwq_cmd_history.specs.Common.{err_from_is_err_and, Appends-trans, front_before, front_after, front_whole}
use Rattle.cmwq_cmd_history.specs.Live.{made_text, live_steps}
use Rattle.cmwq_cmd_history.proofs.live.write_new.Goals as goal

pub returns-in_err-write_first-clause-err : goal.returns-in_err-write_first-clause-err
returns-in_err-write_first-clause-err g c =
    let p = err_from_is_err_and c.from_residual.result c.from_residual.ensures.1 in
    rw (p.1) (front_before _ _ _ (made_text (live_steps c.args.calls.now.layout c.args.calls.now.calls).made)
    c.in_err-write_first.ensures.err)

pub returns-in_err-write_made-clause-err : goal.returns-in_err-write_made-clause-err
returns-in_err-write_made-clause-err g c =
    let p = err_from_is_err_and c.from_residual-in_err-write_made.result c.from_residual-in_err-write_made.ensures.1 in
    rw (p.1) (front_after _ _ _ _ _ c.in_ok-write_first.ensures.ok
    (rw c.made.ensures at c.in_err-write_made.ensures.err))

pub returns-in_err-flush_all-clause-err : goal.returns-in_err-flush_all-clause-err
returns-in_err-flush_all-clause-err g c =
    let p = err_from_is_err_and c.from_residual-in_err-flush_all.result c.from_residual-in_err-flush_all.ensures.1 in
    rw (p.1) (front_whole _ _ _ _
    (Appends-trans _ _ _ _ _ c.in_ok-write_first.ensures.ok (rw c.made.ensures at c.in_ok-write_made.ensures.ok))
    c.in_err-flush_all.ensures.bytes)
