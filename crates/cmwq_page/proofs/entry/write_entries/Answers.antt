use Rattle.std.proofs.Common.{arith}
use Rattle.std.proofs.lemmas.Result.{err_from_is_err_and}
use Rattle.cmwq_base.proofs.Fronts.{front_at}
use Rattle.cmwq_page.specs.Entries.{entry_text}
use Rattle.cmwq_page.proofs.entry.write_entries.Goals as goal

pub returns-in_err-write_entry-clause-err : goal.returns-in_err-write_entry-clause-err
returns-in_err-write_entry-clause-err g c =
    let p = err_from_is_err_and c.from_residual.result c.from_residual.ensures.1 in
    rw (p.1) (front_at entry_text c.args.entries.now c.loop-entry.entry-index _ _ _ _ (omega arith)
    c.loop-entry.invariant.text c.in_err-write_entry.ensures.err)
