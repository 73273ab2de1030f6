use Rattle.cmwq_base.specs.Common.{◌≤◌, take, flat_map, Appends, queue_text}
use Rattle.cmwq_base.proofs.writing.write_queues.Given as goal

abbrev pub invariant-loop-queue : goal.invariant-loop-queue
invariant-loop-queue g l = record {
  text : Appends (g.W.Sink.written l.fn.sink) (g.W.Sink.written l.sink)
      (flat_map queue_text (take l.queue-index l.queues));
  troubles : g.W.Sink.troubles l.fn.sink ≤ g.W.Sink.troubles l.sink;
}
