use Rattle.std.proofs.Common.{◌++◌, option_to_list, ap, ◌∙◌}
use Rattle.cmwq_chart.specs.CallerWaits.{wait_left}
use Rattle.cmwq_chart.proofs.Steps.{flat_more}
use Rattle.cmwq_chart.proofs.waits.push_left.Goals as goal

pub loop-row-preserved : goal.loop-row-preserved
loop-row-preserved c =
    flat_more (wait_left c.args.rows.now c.args.caller) _ _ _ c.loop-row.row c.loop-row.invariant
    (c.in_ok-push_if_some.ensures ∙ ap (λ l. c.loop-row.waits.items ++ l) (ap option_to_list c.wait_in_row.ensures))
