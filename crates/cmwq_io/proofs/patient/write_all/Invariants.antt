use Rattle.cmwq_io.specs.Common.{◌-◌, ◌≤◌, length, take, Appends}
use Rattle.cmwq_io.specs.Outcomes.{IsAllMade, GoesOnBy}
use Rattle.cmwq_io.proofs.patient.write_all.Given as goal

abbrev pub invariant-loop-done : goal.invariant-loop-done
invariant-loop-done g l = record {
  within : l.done ≤ length l.bytes;
  bytes : Appends (g.W.Sink.written l.initial.sink) (g.W.Sink.written l.sink) (take l.done l.bytes);
  grown : g.W.Sink.troubles l.initial.sink ≤ g.W.Sink.troubles l.sink;
  calls : GoesOnBy IsAllMade (g.W.Sink.outcomes l.initial.sink) (g.W.Sink.outcomes l.sink);
}

abbrev pub decreases-loop-done : goal.decreases-loop-done
decreases-loop-done g l = length l.bytes - l.done
