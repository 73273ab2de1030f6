use Rattle.cmwq_waiting.proofs.Needed.{over_premises_are_needed}
use Rattle.cmwq_waiting.proofs.laws.over_premises_are_needed.Goals as goal

pub returns : goal.returns
returns c = over_premises_are_needed
