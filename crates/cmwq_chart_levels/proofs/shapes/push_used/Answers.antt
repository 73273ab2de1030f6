use Rattle.cmwq_chart_levels.specs.Seen.{is_level_used}
use Rattle.cmwq_chart_levels.proofs.Places.{one_kept}
use Rattle.cmwq_chart_levels.proofs.shapes.push_used.Goals as goal

pub loop-level-preserved : goal.loop-level-preserved
loop-level-preserved c =
    one_kept (is_level_used c.args.used.now) c.args.those.now c.loop-level.level-index _ _ _ _ _
    c.loop-level-test.true c.loop-level.invariant c.is_used-is_there.ensures c.in_ok-push_if.ensures
