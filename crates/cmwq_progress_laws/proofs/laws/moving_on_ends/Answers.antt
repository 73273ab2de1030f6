use Rattle.cmwq_progress_laws.proofs.Progress.{moving_on_ends}
use Rattle.cmwq_progress_laws.proofs.laws.moving_on_ends.Goals as goal

pub returns : goal.returns
returns c = moving_on_ends
