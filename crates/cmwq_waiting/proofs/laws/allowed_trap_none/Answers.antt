use Rattle.cmwq_waiting.proofs.Allowed.{allowed_trap_none}
use Rattle.cmwq_waiting.proofs.laws.allowed_trap_none.Goals as goal

pub returns : goal.returns
returns c = allowed_trap_none
