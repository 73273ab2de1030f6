use Rattle.cmwq_replay.specs.Common.{◌≡◌, [], drop, items_view, in_turn}
use Rattle.cmwq_replay.specs.Scenarios.{add_part}
use Rattle.cmwq_replay.proofs.scenario.read_ms.Given as goal

abbrev pub invariant-loop-part : goal.invariant-loop-part
invariant-loop-part l = in_turn add_part 0 [] (items_view l.part-items)
    ≡ in_turn add_part l.part-index l.ms.items (items_view (drop l.part-index l.part-items))
