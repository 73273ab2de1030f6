use Rattle.cmwq_waiting.proofs.Needed.{frozen_premises_are_needed}
use Rattle.cmwq_waiting.proofs.laws.frozen_premises_are_needed.Goals as goal

pub returns : goal.returns
returns c = frozen_premises_are_needed
