use Rattle.std.proofs.Common.{◌≡◌, ◌<◌, ◌≤◌}
use Rattle.cmwq_plain.specs.Partial.{ahead_upto}
use Rattle.cmwq_plain.proofs.active.is_below_max_active.Given as goal

abbrev pub invariant-loop-k : goal.invariant-loop-k
invariant-loop-k l = (l.ahead ≤ ahead_upto l.past l.queueing l.k)
    × (l.ahead < l.width → l.ahead ≡ ahead_upto l.past l.queueing l.k) × (l.ahead ≤ l.width)
