use Rattle.cmwq_waiting.proofs.Refused.{refusals_are_refused}
use Rattle.cmwq_waiting.proofs.laws.refusals_are_refused.Goals as goal

pub returns : goal.returns
returns c = refusals_are_refused
