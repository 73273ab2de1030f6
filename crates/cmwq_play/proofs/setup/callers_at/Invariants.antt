use Rattle.std.proofs.Common.{◌≡◌}
use Rattle.cmwq_play.specs.Firsts.{callers_from}
use Rattle.cmwq_play.proofs.setup.callers_at.Given as goal

abbrev pub invariant-loop-k : goal.invariant-loop-k
invariant-loop-k l = l.callers.items ≡ callers_from l.k
