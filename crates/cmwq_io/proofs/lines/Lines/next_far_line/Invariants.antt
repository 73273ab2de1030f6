use Rattle.cmwq_io.specs.Common.{◌-◌, ◌≤◌, length, Keeps, prepend_known}
use Rattle.cmwq_io.specs.Outcomes.{IsAllMade, GoesOnBy}
use Rattle.cmwq_io.proofs.lines.Lines.next_far_line.Given as goal

abbrev pub invariant-loop-self : goal.invariant-loop-self
invariant-loop-self g l = record {
  kept : Keeps (prepend_known l.initial.self (g.S.Source.left l.initial.source))
      (prepend_known l.self (g.S.Source.left l.source));
  grown : g.S.Source.troubles l.initial.source ≤ g.S.Source.troubles l.source;
  calls : GoesOnBy IsAllMade (g.S.Source.outcomes l.initial.source) (g.S.Source.outcomes l.source);
}

abbrev pub decreases-loop-self : goal.decreases-loop-self
decreases-loop-self g l = 121 - length l.self
