use Rattle.cmwq_theory_wakes.proofs.Resting.{at_rest_nobody_goes_on}
use Rattle.cmwq_theory_wakes.proofs.rest.at_rest_nobody_goes_on.Goals as goal

pub returns : goal.returns
returns c = at_rest_nobody_goes_on
