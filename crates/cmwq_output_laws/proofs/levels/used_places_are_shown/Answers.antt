use Rattle.cmwq_output_laws.proofs.UsedPlaces.{used_places_are_shown}
use Rattle.cmwq_output_laws.proofs.levels.used_places_are_shown.Goals as goal

pub returns : goal.returns
returns c = used_places_are_shown
