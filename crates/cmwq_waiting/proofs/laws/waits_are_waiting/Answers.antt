use Rattle.cmwq_waits.proofs.Begun.{waits_are_waiting}
use Rattle.cmwq_waiting.proofs.laws.waits_are_waiting.Goals as goal

pub returns : goal.returns
returns c = waits_are_waiting
