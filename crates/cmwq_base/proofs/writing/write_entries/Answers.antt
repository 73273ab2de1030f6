use Rattle.cmwq_base.specs.Common.{arith, err_from_is_err_and, entry_text}
use Rattle.cmwq_base.proofs.Fronts.{front_at}
use Rattle.cmwq_base.proofs.writing.write_entries.Goals as goal

pub returns-in_err-write_spelled-clause-err : goal.returns-in_err-write_spelled-clause-err
returns-in_err-write_spelled-clause-err g c =
    let p = err_from_is_err_and c.from_residual.result c.from_residual.ensures.1 in
    rw (p.1) (front_at entry_text c.args.entries.now c.loop-entry.entry-index _ _ _ _ (omega arith)
    c.loop-entry.invariant.text c.in_err-write_spelled.ensures.err)
