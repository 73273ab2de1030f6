use Rattle.cmwq_output_laws.proofs.LevelsStand.{levels_are_true}
use Rattle.cmwq_output_laws.proofs.levels.levels_are_true.Goals as goal

pub returns : goal.returns
returns c = levels_are_true
