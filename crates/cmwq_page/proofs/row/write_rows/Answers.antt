use Rattle.std.proofs.Common.{arith, subst}
use Rattle.std.proofs.lemmas.Result.{err_from_is_err_and}
use Rattle.cmwq_io.specs.Moves.{AppendsFront}
use Rattle.cmwq_base.proofs.Fronts.{front_at}
use Rattle.cmwq_page.specs.Row.{row_text}
use Rattle.cmwq_page.proofs.row.write_rows.Goals as goal

pub returns-in_err-write_row-clause-err : goal.returns-in_err-write_row-clause-err
returns-in_err-write_row-clause-err g c =
    let p = err_from_is_err_and c.from_residual.result c.from_residual.ensures.1 in
    let text = row_text g.R.Row.template_of g.R.Row.numbers_of in
    rw (p.1) (front_at text c.args.rows.now c.loop-row.row-index c.row-item.result _ _ _ (omega arith)
    c.loop-row.invariant.text
    (subst (λ row. AppendsFront (g.W.Sink.written c.loop-row.sink) (g.W.Sink.written c.write_row.new.sink) (text row))
    c.row-item.is c.in_err-write_row.ensures.err))
