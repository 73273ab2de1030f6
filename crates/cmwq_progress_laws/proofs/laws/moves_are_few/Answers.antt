use Rattle.cmwq_progress_laws.proofs.Progress.{moves_are_few}
use Rattle.cmwq_progress_laws.proofs.laws.moves_are_few.Goals as goal

pub returns : goal.returns
returns c = moves_are_few
