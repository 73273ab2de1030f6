use Rattle.std.proofs.Common.{◌≤◌, take}
use Rattle.std.specs.Io.KnownBytes.{Appends}
use Rattle.cmwq_page.specs.Row.{rows_text}
use Rattle.cmwq_page.proofs.row.write_rows.Given as goal

abbrev pub invariant-loop-row : goal.invariant-loop-row
invariant-loop-row g l = record {
  text : Appends (g.W.Sink.written l.fn.sink) (g.W.Sink.written l.sink)
      (rows_text g.R.Row.template_of g.R.Row.numbers_of (take l.row-index l.rows));
  troubles : g.W.Sink.troubles l.fn.sink ≤ g.W.Sink.troubles l.sink;
}
