use Rattle.cmwq_waiting.proofs.Examples.{who_waits}
use Rattle.cmwq_waiting.proofs.laws.who_waits.Goals as goal

pub returns : goal.returns
returns c = who_waits
