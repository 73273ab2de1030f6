use Rattle.cmwq_json_script.specs.Common.{◌≡◌, drop, items_view, in_turn, named_of}
use Rattle.cmwq_json_script.specs.Queues.{add_queue}
use Rattle.cmwq_json_script.proofs.queue.add_queues.Given as goal

abbrev pub invariant-loop-index : goal.invariant-loop-index
invariant-loop-index l = in_turn (add_queue l.most) 0 (named_of l.fn.queues) (items_view l.values)
    ≡ in_turn (add_queue l.most) l.index (named_of l.queues) (items_view (drop l.index l.values))
