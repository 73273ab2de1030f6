use Rattle.std.proofs.Common.{take}
use mathlib.Core.List.{IsPrefix}
use Rattle.cmwq_follow.proofs.search.agreeing.Given as goal

abbrev pub invariant-loop-k : goal.invariant-loop-k
invariant-loop-k l =
    IsPrefix l.play.history.entries l.history → IsPrefix l.play.history.entries l.made
    → IsPrefix (take l.k l.made) l.history
