use Rattle.cmwq_waiting.proofs.AtRest.{at_rest_waits_are_deadlock}
use Rattle.cmwq_waiting.proofs.laws.at_rest_waits_are_deadlock.Goals as goal

pub returns : goal.returns
returns c = at_rest_waits_are_deadlock
