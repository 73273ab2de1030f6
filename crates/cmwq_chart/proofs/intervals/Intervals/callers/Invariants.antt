use Rattle.std.proofs.Common.{List, All, take}
use Rattle.cmwq_model.specs.declared.entry.Entry.{Entry}
use Rattle.cmwq_chart.specs.Intervals.{callers_in, AreCallerShapes, IsCallerKept}
use Rattle.cmwq_chart.proofs.intervals.Intervals.callers.Given as goal

abbrev pub invariant-loop-own : goal.invariant-loop-own
invariant-loop-own l = (past : List Entry) → All (IsCallerKept past) (l.self).callers.items
    → AreCallerShapes past (callers_in (take l.own-index (l.self).callers.items)) l.shapes
