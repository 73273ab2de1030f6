use Rattle.cmwq_waits_laws.proofs.Lasting.{deadlocks_last}
use Rattle.cmwq_waits_laws.proofs.laws.deadlocks_last.Goals as goal

pub returns : goal.returns
returns c = deadlocks_last
