use Rattle.cmwq_sim.specs.Common.{◌≡◌, ◌≤◌, ◌*◌, take, map, sum}
use Rattle.cmwq_sim.specs.Plan.{plan_item, time_of}
use Rattle.cmwq_sim.proofs.times.whole_time.Given as goal

abbrev pub invariant-loop-item : goal.invariant-loop-item
invariant-loop-item l = (l.time ≡ sum (map time_of (map plan_item (take l.item-index l.scenario.items.items))))
    × (l.time ≤ 8000 * l.item-index)
