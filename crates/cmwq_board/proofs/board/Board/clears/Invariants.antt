use Rattle.std.specs.Prelude.{◌≡◌, ◌+◌, ◌-◌, false, length}
use Rattle.cmwq_board.specs.Waits.{EndsLeft}
use Rattle.cmwq_board.proofs.board.Board.clears.Given as goal

abbrev pub invariant-loop : goal.invariant-loop
invariant-loop l = EndsLeft l.fn.self l.self l.fn.wakes l.wakes × (l.self.dispatch.failed ≡ false)

abbrev pub decreases-loop : goal.decreases-loop
decreases-loop l = (l.self.keeps + l.self.given) - length l.self.dispatch.history.entries
