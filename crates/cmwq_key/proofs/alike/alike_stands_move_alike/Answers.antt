use Rattle.cmwq_key.proofs.AlikeMoves.{moves_go_on, refusals_alike}
use Rattle.cmwq_key.proofs.AlikeStands.{done_alike, may_alike}
use Rattle.cmwq_key.proofs.alike.alike_stands_move_alike.Goals as goal

pub returns : goal.returns
returns c = assumption (may_alike, done_alike, refusals_alike, moves_go_on)
