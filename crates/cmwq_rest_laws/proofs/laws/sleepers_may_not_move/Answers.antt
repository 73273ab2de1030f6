use Rattle.cmwq_rest_laws.proofs.Resting.{sleepers_may_not_move}
use Rattle.cmwq_rest_laws.proofs.laws.sleepers_may_not_move.Goals as goal

pub returns : goal.returns
returns c = sleepers_may_not_move
