use Rattle.cmwq_io.specs.Common.{◌≡◌, vec_len, Keeps, append_known}
use Rattle.cmwq_io.proofs.buffered.BufferedSink.hand_all_on.Given as goal

abbrev pub invariant-loop-self : goal.invariant-loop-self
invariant-loop-self g l = record {
  kept : Keeps (append_known (g.W.Sink.written l.initial.self.inner) l.initial.self.buffer.items)
      (append_known (g.W.Sink.written l.self.inner) l.self.buffer.items);
  count : g.W.Sink.troubles l.self.inner ≡ g.W.Sink.troubles l.initial.self.inner;
  outcomes : l.self.outcomes ≡ l.initial.self.outcomes;
}

abbrev pub decreases-loop-self : goal.decreases-loop-self
decreases-loop-self g l = vec_len l.self.buffer
