use Rattle.std.proofs.Common.{◌*◌, arith}
use Rattle.std.specs.Prelude.{option_and_then}
use Rattle.cmwq_timer.specs.Tournament.{candidate_at}
use Rattle.cmwq_timer.proofs.Soonest.{row_past, soonest_more, soonest_past}
use Rattle.cmwq_timer.proofs.candidate.first_of_rows.Goals as goal

pub loop-row-preserved : goal.loop-row-preserved
loop-row-preserved c =
    let nodes = candidate_at c.args.rows.now in
    let below = c.min-row-end.ensures in
    let turns = c.loop-row-test.true in (
      rw c.sooner_row-first.ensures
          (soonest_more nodes (16 * c.args.node) c.loop-row.row c.loop-row.auto.row
          (option_and_then nodes c.loop-row.first) c.loop-row.invariant.0),
      omega (arith, below, turns),
    )

pub returns : goal.returns
returns c = grind (arith, soonest_past, row_past)
