use Rattle.cmwq_base.specs.Common.{◌≤◌, take, Appends}
use Rattle.cmwq_text.specs.HistoryText.{entries_text}
use Rattle.cmwq_base.proofs.writing.write_entries.Given as goal

abbrev pub invariant-loop-entry : goal.invariant-loop-entry
invariant-loop-entry g l = record {
  text : Appends (g.W.Sink.written l.fn.sink) (g.W.Sink.written l.sink) (entries_text (take l.entry-index l.entries));
  troubles : g.W.Sink.troubles l.fn.sink ≤ g.W.Sink.troubles l.sink;
}
