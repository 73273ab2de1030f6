use Rattle.std.proofs.Common.{◌*◌, arith}
use Rattle.std.specs.Prelude.{option_and_then}
use Rattle.cmwq_timer.specs.Tournament.{node_at}
use Rattle.cmwq_timer.proofs.Soonest.{node_past, soonest_more, soonest_past}
use Rattle.cmwq_timer.proofs.candidate.first_of_nodes.Goals as goal

pub loop-below-preserved : goal.loop-below-preserved
loop-below-preserved c =
    let nodes = node_at c.args.level.now in
    let below = c.min-below-end.ensures in
    let turns = c.loop-below-test.true in (
      rw c.sooner_node-first.ensures
          (soonest_more nodes (16 * c.args.node) c.loop-below.below c.loop-below.auto.below
          (option_and_then nodes c.loop-below.first) c.loop-below.invariant.0),
      omega (arith, below, turns),
    )

pub returns : goal.returns
returns c = grind (arith, soonest_past, node_past)
