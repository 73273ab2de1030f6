use Rattle.cmwq_waiting.proofs.Examples.{entries_may_trap}
use Rattle.cmwq_waiting.proofs.laws.entries_may_trap.Goals as goal

pub returns : goal.returns
returns c = entries_may_trap
