use Rattle.cmwq_waiting.proofs.Hanging.{no_deadlock_comes_up}
use Rattle.cmwq_waiting.proofs.laws.no_deadlock_comes_up.Goals as goal

pub returns : goal.returns
returns c = no_deadlock_comes_up
