use Rattle.std.proofs.Common.{◌≤◌, take}
use Rattle.std.specs.Io.KnownBytes.{Appends}
use Rattle.cmwq_page.specs.Entries.{entries_text}
use Rattle.cmwq_page.proofs.entry.write_entries.Given as goal

abbrev pub invariant-loop-entry : goal.invariant-loop-entry
invariant-loop-entry g l = record {
  text : Appends (g.W.Sink.written l.fn.sink) (g.W.Sink.written l.sink)
      (entries_text (take l.entry-index l.entries));
  troubles : g.W.Sink.troubles l.fn.sink ≤ g.W.Sink.troubles l.sink;
}
