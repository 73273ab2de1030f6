use Rattle.cmwq_dispatch.proofs.Quiet.{at_rest}
use Rattle.cmwq_dispatch.proofs.laws.at_rest_nobody_goes_on.Goals as goal

pub returns : goal.returns
returns c = at_rest
