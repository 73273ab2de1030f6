use Rattle.cmwq_waits.proofs.Begun.{waits_are_asleep}
use Rattle.cmwq_waiting.proofs.laws.waits_are_asleep.Goals as goal

pub returns : goal.returns
returns c = waits_are_asleep
