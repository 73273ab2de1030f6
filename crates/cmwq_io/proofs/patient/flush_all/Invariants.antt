use Rattle.cmwq_io.specs.Common.{Keeps, ◌≡◌, ◌++◌}
use Rattle.cmwq_io.specs.Outcomes.{interruptions}
use Rattle.cmwq_io.proofs.Trying.{HasTried}
use Rattle.cmwq_io.proofs.patient.flush_all.Given as goal

abbrev pub invariant-loop-flush : goal.invariant-loop-flush
invariant-loop-flush g l = record {
  kept : Keeps (g.W.Sink.written l.initial.sink) (g.W.Sink.written l.sink);
  tried : HasTried l._flush (g.W.Sink.troubles l.initial.sink) (g.W.Sink.troubles l.sink);
  calls : g.W.Sink.outcomes l.sink ≡ g.W.Sink.outcomes l.initial.sink ++ interruptions l._flush;
}
