use Rattle.cmwq_waiting.proofs.Trapping.{entries_trap_none}
use Rattle.cmwq_waiting.proofs.laws.entries_trap_none.Goals as goal

pub returns : goal.returns
returns c = entries_trap_none
