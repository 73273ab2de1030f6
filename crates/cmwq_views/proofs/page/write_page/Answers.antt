use Rattle.std.specs.Prelude.{flat_map}
use Rattle.std.proofs.lemmas.Result.{err_from_is_err_and}
use Rattle.std.proofs.KnownBytes.{Appends-trans}
use Rattle.cmwq_base.proofs.Fronts.{front_before, front_after, front_whole}
use Rattle.cmwq_model.specs.Prelude.{past_of}
use Rattle.cmwq_views.specs.Page.{rows_of_table}
use Rattle.cmwq_views.specs.declared.table.TheConstants.{TABLES}
use Rattle.cmwq_views.proofs.page.write_page.Goals as goal

pub returns-in_err-write_all-clause-err : goal.returns-in_err-write_all-clause-err
returns-in_err-write_all-clause-err g c =
    let p = err_from_is_err_and c.from_residual.result c.from_residual.ensures.1 in
    let tables = flat_map (rows_of_table c.args.progress.now.layout (past_of c.args.progress.now.entries)) TABLES in
    let front = rw (c.as_bytes.ensures, c.first_row.ensures) at c.in_err-write_all.ensures.err in
    rw (p.1) (front_before _ _ _ tables front)

pub returns-in_err-write_tables-clause-err : goal.returns-in_err-write_tables-clause-err
returns-in_err-write_tables-clause-err g c =
    let p = err_from_is_err_and c.from_residual-in_err-write_tables.result
    c.from_residual-in_err-write_tables.ensures.1 in
    let head = rw (c.as_bytes.ensures, c.first_row.ensures) at c.in_ok-write_all.ensures.ok in
    rw (p.1) (front_after _ _ _ _ _ head c.in_err-write_tables.ensures.err)

pub returns-in_err-flush_all-clause-err : goal.returns-in_err-flush_all-clause-err
returns-in_err-flush_all-clause-err g c =
    let p = err_from_is_err_and c.from_residual-in_err-flush_all.result c.from_residual-in_err-flush_all.ensures.1 in
    let head = rw (c.as_bytes.ensures, c.first_row.ensures) at c.in_ok-write_all.ensures.ok in
    let whole = Appends-trans _ _ _ _ _ head c.in_ok-write_tables.ensures.ok in
    rw (p.1) (front_whole _ _ _ _ whole c.in_err-flush_all.ensures.bytes)
