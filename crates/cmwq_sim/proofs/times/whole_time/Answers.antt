use Rattle.std.proofs.Common.{arith}
use Rattle.cmwq_sim.proofs.Within.{each_item}
use Rattle.cmwq_sim.proofs.times.whole_time.Goals as goal

pub time_of-time-requires-clause-few : goal.time_of-time-requires-clause-few
time_of-time-requires-clause-few c =
    rw (c.deref.ensures.value, c.item-item.is, c.deref-item-items.ensures.value)
    ((each_item _ c.args.scenario.now.items.items c.loop-item.item-index _ c.requires.items (omega arith)).parts.1)

pub time_of-time-requires-clause-short : goal.time_of-time-requires-clause-short
time_of-time-requires-clause-short c =
    rw (c.deref.ensures.value, c.item-item.is, c.deref-item-items.ensures.value)
    ((each_item _ c.args.scenario.now.items.items c.loop-item.item-index _ c.requires.items (omega arith)).ms)
