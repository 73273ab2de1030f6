use Rattle.cmwq_output_laws.proofs.OneLevel.{levels_are_alone}
use Rattle.cmwq_output_laws.proofs.levels.levels_are_alone.Goals as goal

pub returns : goal.returns
returns c = levels_are_alone
