use Rattle.std.proofs.Common.{◌≡◌, List, All, take}
use Rattle.cmwq_model.specs.declared.entry.Entry.{Entry}
use Rattle.cmwq_chart.specs.Intervals.{lanes_in, IsWorkerKept}
use Rattle.cmwq_chart.specs.Sleeps.{sleeps_of}
use Rattle.cmwq_chart.proofs.intervals.Intervals.sleeps.Given as goal

abbrev pub invariant-loop-own : goal.invariant-loop-own
invariant-loop-own l = (past : List Entry) → All (IsWorkerKept past) (l.self).workers.items
    → (l.sleeps).items ≡ sleeps_of past (lanes_in (take l.own-index (l.self).workers.items))
