use Rattle.cmwq_rt_journal.specs.Common.{◌≤◌, Appends, body_text}
use Rattle.cmwq_rt_journal.proofs.keep.keep_from_start.Given as goal

abbrev pub invariant-loop : goal.invariant-loop
invariant-loop g l = record {
  next : (goal.iterator-loop g).can_next l.iterator';
  finite : (goal.iterator-loop g).is_finite l.iterator';
  text : Appends (g.O.Sink.written l.fn.output) (g.O.Sink.written l.output)
      (body_text 3 g.N.HubName.layout l.journal.seen);
  troubles : g.O.Sink.troubles l.fn.output ≤ g.O.Sink.troubles l.output;
}
