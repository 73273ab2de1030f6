use Rattle.std.proofs.Common.{◌≡◌, ◌≤◌}
use Rattle.cmwq_board.specs.Fires.{fired}
use Rattle.cmwq_board.proofs.Fires.{GoesOn, HasFired}
use Rattle.cmwq_board.proofs.entering.fire_due.Given as goal

abbrev pub invariant-loop : goal.invariant-loop
invariant-loop l =
    let items = l.fn.dispatch.history.layout.items in
    HasFired l.counter l.fn.caller l.fn.dispatch l.dispatch l.fn.tail l.tail l.fn.wakes l.wakes
    × (l.items ≡ items) × (l.counter ≤ l.items)
    × GoesOn l.counter items l.fn.caller (fired items l.fn.dispatch.history l.fn.caller) l.dispatch.history
