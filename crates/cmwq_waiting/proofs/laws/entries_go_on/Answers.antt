use Rattle.cmwq_waiting.proofs.Waits.{entries_go_on}
use Rattle.cmwq_waiting.proofs.laws.entries_go_on.Goals as goal

pub returns : goal.returns
returns c = entries_go_on
