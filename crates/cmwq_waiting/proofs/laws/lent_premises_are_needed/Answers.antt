use Rattle.cmwq_waiting.proofs.Needed.{lent_premises_are_needed}
use Rattle.cmwq_waiting.proofs.laws.lent_premises_are_needed.Goals as goal

pub returns : goal.returns
returns c = lent_premises_are_needed
