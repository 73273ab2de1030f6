use Rattle.std.proofs.Common.{◌∙◌, sym}
use Rattle.cmwq_core.specs.History.{past_in}
use Rattle.cmwq_state.proofs.Readings.{timer_there}
use Rattle.cmwq_waits.proofs.search.is_turned_away.Goals as goal

pub is_draining-requires : goal.is_draining-requires
is_draining-requires c =
    let h = c.args.execution.now in
    rw c.state-in-Some-timer.ensures
    (timer_there h.layout (past_in h) c.in-Some.item.0 c.in-Some-timer.timer
    (rw c.state.ensures at c.timer.ensures.legal) (sym (rw c.state.ensures at c.timer.ensures.is) ∙ c.in-Some-timer.is))
