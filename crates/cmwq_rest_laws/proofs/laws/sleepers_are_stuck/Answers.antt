use Rattle.cmwq_rest_laws.proofs.Resting.{sleepers_are_stuck}
use Rattle.cmwq_rest_laws.proofs.laws.sleepers_are_stuck.Goals as goal

pub returns : goal.returns
returns c = sleepers_are_stuck
