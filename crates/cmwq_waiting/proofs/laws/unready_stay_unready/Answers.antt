use Rattle.cmwq_waiting.proofs.Over.{unready_stay_unready}
use Rattle.cmwq_waiting.proofs.laws.unready_stay_unready.Goals as goal

pub returns : goal.returns
returns c = unready_stay_unready
