use Rattle.std.proofs.Common.{◌≡◌}
use Rattle.cmwq_rt.proofs.hub.Hub.until_start.Given as goal

abbrev pub invariant-loop : goal.invariant-loop
invariant-loop g l = (goal.iterator-loop g).can_next l.iterator' × (goal.iterator-loop g).is_finite l.iterator'
    × (l.participant ≡ l.fn.participant)
