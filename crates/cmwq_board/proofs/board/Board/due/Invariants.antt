use Rattle.cmwq_core.specs.History.{past_in}
use Rattle.cmwq_board.specs.Items.{IsDue}
use Rattle.cmwq_board.proofs.board.Board.due.Given as goal

abbrev pub invariant-loop-item : goal.invariant-loop-item
invariant-loop-item l = IsDue (past_in l.state) l.item l.least
