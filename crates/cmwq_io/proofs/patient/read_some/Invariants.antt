use Rattle.cmwq_io.specs.Common.{Keeps, ◌≡◌, ◌++◌}
use Rattle.cmwq_io.specs.Outcomes.{interruptions}
use Rattle.cmwq_io.proofs.Trying.{HasTried}
use Rattle.cmwq_io.proofs.patient.read_some.Given as goal

abbrev pub invariant-loop-read : goal.invariant-loop-read
invariant-loop-read g l = record {
  kept : Keeps (g.S.Source.left l.initial.source) (g.S.Source.left l.source);
  tried : HasTried l._read (g.S.Source.troubles l.initial.source) (g.S.Source.troubles l.source);
  calls : g.S.Source.outcomes l.source ≡ g.S.Source.outcomes l.initial.source ++ interruptions l._read;
}
