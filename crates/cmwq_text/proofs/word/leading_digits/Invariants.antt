use Rattle.std.proofs.Common.{length}
use Rattle.cmwq_text.specs.Numbers.{IsLeading}
use Rattle.cmwq_text.proofs.word.leading_digits.Given as goal

abbrev pub invariant-loop-left : goal.invariant-loop-left
invariant-loop-left l = IsLeading l.bytes l.value l.left

abbrev pub decreases-loop-left : goal.decreases-loop-left
decreases-loop-left l = length l.left
