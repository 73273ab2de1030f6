use Rattle.cmwq_state.proofs.Steps.{fits_there}
use Rattle.cmwq_state.proofs.tables.those_who_fit_are_there.Goals as goal

pub returns : goal.returns
returns c = fits_there
