use Rattle.std.proofs.Common.{◌≡◌}
use Rattle.cmwq_model.specs.Prelude.{past_of}
use Rattle.cmwq_views.specs.Open.{idle_from}
use Rattle.cmwq_views.proofs.standing.idle_from.Given as goal

abbrev pub invariant-loop-at : goal.invariant-loop-at
invariant-loop-at l = l.first ≡ idle_from l.standing.layout (past_of l.standing.entries) l.at
