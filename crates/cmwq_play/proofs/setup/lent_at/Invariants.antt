use Rattle.std.proofs.Common.{◌≡◌}
use Rattle.cmwq_play.specs.Firsts.{lent_from}
use Rattle.cmwq_play.proofs.setup.lent_at.Given as goal

abbrev pub invariant-loop-k : goal.invariant-loop-k
invariant-loop-k l = l.lent.items ≡ lent_from l.first l.k
