use Rattle.cmwq_waiting.proofs.AllowedAsleep.{allowed_asleep_too}
use Rattle.cmwq_waiting.proofs.laws.allowed_asleep_too.Goals as goal

pub returns : goal.returns
returns c = allowed_asleep_too
