use Rattle.cmwq_waiting.proofs.Needed.{premises_are_met}
use Rattle.cmwq_waiting.proofs.laws.premises_are_met.Goals as goal

pub returns : goal.returns
returns c = premises_are_met
