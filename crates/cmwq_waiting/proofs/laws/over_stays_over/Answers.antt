use Rattle.cmwq_waiting.proofs.Over.{over_stays_over}
use Rattle.cmwq_waiting.proofs.laws.over_stays_over.Goals as goal

pub returns : goal.returns
returns c = over_stays_over
