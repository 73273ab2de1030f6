use Rattle.std.proofs.Common.{◌≤◌, take}
use Rattle.std.specs.Io.KnownBytes.{Appends}
use Rattle.cmwq_trace.specs.TraceText.{events_text}
use Rattle.cmwq_trace.proofs.trace.write_events.Given as goal

abbrev pub invariant-loop-event : goal.invariant-loop-event
invariant-loop-event g l = record {
  text : Appends (g.W.Sink.written l.fn.sink) (g.W.Sink.written l.sink)
      (events_text l.end (take l.event-index l.events));
  troubles : g.W.Sink.troubles l.fn.sink ≤ g.W.Sink.troubles l.sink;
}
