use Rattle.cmwq_waiting.proofs.Refused.{deadlocks_last}
use Rattle.cmwq_waiting.proofs.laws.deadlocks_last.Goals as goal

pub returns : goal.returns
returns c = deadlocks_last
