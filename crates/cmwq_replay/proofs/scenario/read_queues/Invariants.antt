use Rattle.cmwq_replay.specs.Common.{◌≡◌, drop, items_view, in_turn, nobody, named_of}
use Rattle.cmwq_replay.specs.Scenarios.{add_sim_queue}
use Rattle.cmwq_replay.proofs.scenario.read_queues.Given as goal

abbrev pub invariant-loop-index : goal.invariant-loop-index
invariant-loop-index l = in_turn add_sim_queue 0 nobody (items_view l.values)
    ≡ in_turn add_sim_queue l.index (named_of l.queues) (items_view (drop l.index l.values))
