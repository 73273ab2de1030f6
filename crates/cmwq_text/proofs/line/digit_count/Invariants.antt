use Rattle.std.proofs.Common.{◌≡◌, ◌+◌, ◌<◌, ◌^◌, length, decimal}
use Rattle.cmwq_text.proofs.line.digit_count.Given as goal

-- the digits that were counted, and those of what is left, are those of the number
abbrev pub invariant-loop-left : goal.invariant-loop-left
invariant-loop-left l =
    record { count : l.count + length (decimal l.left) ≡ length (decimal l.number); fits : l.left < 2 ^ 64 }

abbrev pub decreases-loop-left : goal.decreases-loop-left
decreases-loop-left l = l.left
