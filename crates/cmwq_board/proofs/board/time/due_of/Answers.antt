use Rattle.std.proofs.Common.{sym}
use Rattle.cmwq_core.specs.History.{past_in}
use Rattle.cmwq_state.proofs.Readings.{timer_there}
use Rattle.cmwq_board.proofs.board.time.due_of.Goals as goal

pub is_draining-requires : goal.is_draining-requires
is_draining-requires c =
    let h = c.args.state.now in
    timer_there h.layout (past_in h) c.args.item.0 c.in_ok-timer.timer c.timer.ensures.legal
    (sym c.in_ok-timer.ensures.is)
