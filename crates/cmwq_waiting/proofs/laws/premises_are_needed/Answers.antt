use Rattle.cmwq_waiting.proofs.Needed.{premises_are_needed}
use Rattle.cmwq_waiting.proofs.laws.premises_are_needed.Goals as goal

pub returns : goal.returns
returns c = premises_are_needed
