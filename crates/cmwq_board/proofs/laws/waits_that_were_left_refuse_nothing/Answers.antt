use Rattle.cmwq_board.proofs.LeftWaits.{left_refuses_nothing}
use Rattle.cmwq_board.proofs.laws.waits_that_were_left_refuse_nothing.Goals as goal

pub returns : goal.returns
returns c = left_refuses_nothing
