use Rattle.cmwq_trace.specs.declared.event.Event.TheVariants.{Row}
use Rattle.cmwq_trace.proofs.Mapped.{one_mapped}
use Rattle.cmwq_trace.proofs.events.push_rows.Goals as goal

pub loop-row-preserved : goal.loop-row-preserved
loop-row-preserved c =
    one_mapped (Row c.args.lane.caller) _ _ _ c.loop-row.row c.loop-row.invariant c.in_ok-push.ensures.items
