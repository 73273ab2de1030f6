use Rattle.cmwq_output_laws.proofs.LevelsStand.{places_have_levels}
use Rattle.cmwq_output_laws.proofs.levels.places_have_levels.Goals as goal

pub returns : goal.returns
returns c = places_have_levels
