use Rattle.cmwq_progress_laws.proofs.Progress.{fair_turns_end}
use Rattle.cmwq_progress_laws.proofs.laws.fair_turns_end.Goals as goal

pub returns : goal.returns
returns c = fair_turns_end
