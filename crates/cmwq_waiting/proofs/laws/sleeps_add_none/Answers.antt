use Rattle.cmwq_waiting.proofs.Waits.{sleeps_add_none}
use Rattle.cmwq_waiting.proofs.laws.sleeps_add_none.Goals as goal

pub returns : goal.returns
returns c = sleeps_add_none
