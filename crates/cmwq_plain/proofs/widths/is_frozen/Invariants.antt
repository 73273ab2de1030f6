use Rattle.cmwq_plain.specs.Common.{◌≡◌, is_frozen}
use Rattle.cmwq_plain.specs.Past.{upto}
use Rattle.cmwq_plain.proofs.widths.is_frozen.Given as goal

abbrev pub invariant-loop-k : goal.invariant-loop-k
invariant-loop-k l = l.frozen ≡ is_frozen (upto l.past l.k)
