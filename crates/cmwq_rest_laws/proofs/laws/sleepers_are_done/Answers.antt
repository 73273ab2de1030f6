use Rattle.cmwq_rest_laws.proofs.Resting.{sleepers_are_done}
use Rattle.cmwq_rest_laws.proofs.laws.sleepers_are_done.Goals as goal

pub returns : goal.returns
returns c = sleepers_are_done
