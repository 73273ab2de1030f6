use Rattle.std.proofs.Common.{◌≡◌}
use Rattle.cmwq_plain.specs.Earliest.{best_upto}
use Rattle.cmwq_plain.proofs.active.next.Given as goal

abbrev pub invariant-loop-k : goal.invariant-loop-k
invariant-loop-k l = l.best ≡ best_upto l.shape l.past l.pool l.k
