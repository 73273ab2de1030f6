use Rattle.cmwq_io.specs.Common.{Keeps, ◌≡◌, ◌++◌}
use Rattle.cmwq_io.specs.Outcomes.{interruptions}
use Rattle.cmwq_io.proofs.Trying.{HasTried}
use Rattle.cmwq_io.proofs.patient.write_some.Given as goal

abbrev pub invariant-loop-write : goal.invariant-loop-write
invariant-loop-write g l = record {
  kept : Keeps (g.W.Sink.written l.initial.sink) (g.W.Sink.written l.sink);
  tried : HasTried l._write (g.W.Sink.troubles l.initial.sink) (g.W.Sink.troubles l.sink);
  calls : g.W.Sink.outcomes l.sink ≡ g.W.Sink.outcomes l.initial.sink ++ interruptions l._write;
}
