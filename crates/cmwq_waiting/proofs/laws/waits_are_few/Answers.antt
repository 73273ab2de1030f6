use Rattle.cmwq_waits.proofs.Few.{waits_are_few}
use Rattle.cmwq_waiting.proofs.laws.waits_are_few.Goals as goal

pub returns : goal.returns
returns c = waits_are_few
