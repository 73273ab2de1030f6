use Rattle.std.proofs.Common.{◌-◌, ◌*◌}
use Rattle.cmwq_timer.specs.Due.{timer_may_fire}
use Rattle.cmwq_timer.proofs.Under.{IsFirstBelow}
use Rattle.cmwq_timer.proofs.tournament.Tournament.+first_under.Given as goal

abbrev pub decreases-first_under : goal.decreases-first_under
decreases-first_under l = l.level

abbrev pub invariant-loop-below : goal.invariant-loop-below
invariant-loop-below l = IsFirstBelow (timer_may_fire l.now l.holds) l.self (l.level - 1) (16 * l.node) l.below l.first
