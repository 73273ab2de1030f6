use Rattle.cmwq_progress_laws.proofs.Progress.{ended_moved_on}
use Rattle.cmwq_progress_laws.proofs.laws.ended_moved_on.Goals as goal

pub returns : goal.returns
returns c = ended_moved_on
