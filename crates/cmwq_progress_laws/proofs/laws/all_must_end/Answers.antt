use Rattle.cmwq_progress_laws.proofs.Needed.{all_must_end}
use Rattle.cmwq_progress_laws.proofs.laws.all_must_end.Goals as goal

pub returns : goal.returns
returns c = all_must_end
