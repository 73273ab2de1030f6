use Rattle.cmwq_refinement.proofs.PlacesFit.{opened_are_there, open_are_there, unended_tickets_fit}
use Rattle.cmwq_refinement.proofs.places.places_are_there.Goals as goal

pub returns : goal.returns
returns c = assumption (opened_are_there, open_are_there, unended_tickets_fit)
