use Rattle.std.proofs.Common.{arith}
use Rattle.std.proofs.lemmas.Result.{err_from_is_err_and}
use Rattle.cmwq_views.proofs.RowTexts.{front_of_rows, one_more_row, nothing_written}
use Rattle.cmwq_views.proofs.write.write_rows.Goals as goal

pub loop-at-init : goal.loop-at-init
loop-at-init g c =
    record {
      text = nothing_written (g.R.Rows.row_of c.args.rows.now) _;
      troubles = omega arith;
    }

pub loop-at-preserved : goal.loop-at-preserved
loop-at-preserved g c =
    let row = g.R.Rows.row_of c.args.rows.now in
    let one = rw (c.as_bytes.ensures, c.row.ensures) at c.in_ok-write_all.ensures.ok in
    let grown = c.in_ok-write_all.ensures.grown in let before = c.loop-at.invariant.troubles in
    record { text = one_more_row row c.loop-at.at _ _ _ c.loop-at.invariant.text one; troubles = omega arith }

pub returns-in_err-write_all-clause-err : goal.returns-in_err-write_all-clause-err
returns-in_err-write_all-clause-err g c =
    let p = err_from_is_err_and c.from_residual.result c.from_residual.ensures.1 in
    let row = g.R.Rows.row_of c.args.rows.now in
    let front = rw (c.as_bytes.ensures, c.row.ensures) at c.in_err-write_all.ensures.err in
    rw (p.1) (front_of_rows row c.loop-at.at _ _ _ _ (rw (← c.len-at-end.ensures) c.loop-at-test.true)
    c.loop-at.invariant.text front)
