use Rattle.std.proofs.Common.{Some, None}
use Rattle.cmwq_timer.specs.Due.{timer_may_fire}
use Rattle.cmwq_timer.specs.Tournament.{IsFirstUnder}
use Rattle.cmwq_timer.proofs.Under.{first_fires, none_fires}
use Rattle.cmwq_timer.proofs.timers.Timers.first_due.Goals as goal

pub returns-in_err-first-clause-none : goal.returns-in_err-first-clause-none
returns-in_err-first-clause-none c =
    let none : IsFirstUnder (timer_may_fire c.args.now c.args.holds.now) c.self.inside.timers 4 0 None =
    rw c.in_err-first.was at c.first_due.ensures in
    let few = c.self.invariant.few in
    rw (c.from_residual.ensures, ← c.self.view_is)
    (none_fires c.self.inside.timers few c.args.now c.args.holds.now none)

pub returns-clause-found : goal.returns-clause-found
returns-clause-found c =
    let some : IsFirstUnder (timer_may_fire c.args.now c.args.holds.now) c.self.inside.timers 4 0
    (Some c.in_ok-first.first) = rw c.in_ok-first.was at c.first_due.ensures in
    let few = c.self.invariant.few in
    rw (← c.self.view_is) (first_fires c.self.inside.timers few c.args.now c.args.holds.now c.in_ok-first.first some)
