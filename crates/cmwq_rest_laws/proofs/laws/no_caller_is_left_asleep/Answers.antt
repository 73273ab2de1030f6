use Rattle.cmwq_rest_laws.proofs.Resting.{no_caller_is_left_asleep}
use Rattle.cmwq_rest_laws.proofs.laws.no_caller_is_left_asleep.Goals as goal

pub returns : goal.returns
returns c = no_caller_is_left_asleep
