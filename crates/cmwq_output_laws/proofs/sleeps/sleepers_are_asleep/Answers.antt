use Rattle.cmwq_output_laws.proofs.Asleep.{sleepers_are_asleep}
use Rattle.cmwq_output_laws.proofs.sleeps.sleepers_are_asleep.Goals as goal

pub returns : goal.returns
returns c = sleepers_are_asleep
