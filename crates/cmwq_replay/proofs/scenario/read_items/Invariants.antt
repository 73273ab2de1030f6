use Rattle.cmwq_replay.specs.Common.{◌≡◌, drop, map, string_bytes, items_view, in_turn, nobody}
use Rattle.cmwq_replay.specs.Readings.{named_items}
use Rattle.cmwq_replay.specs.Scenarios.{add_sim_item}
use Rattle.cmwq_replay.proofs.scenario.read_items.Given as goal

abbrev pub invariant-loop-index : goal.invariant-loop-index
invariant-loop-index l = in_turn (add_sim_item (map string_bytes l.queue_names.keys)) 0 nobody (items_view l.values)
    ≡ in_turn (add_sim_item (map string_bytes l.queue_names.keys)) l.index (named_items l.items)
    (items_view (drop l.index l.values))
