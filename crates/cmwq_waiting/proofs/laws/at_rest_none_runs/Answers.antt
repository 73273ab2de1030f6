use Rattle.cmwq_waiting.proofs.AtRest.{at_rest_none_runs}
use Rattle.cmwq_waiting.proofs.laws.at_rest_none_runs.Goals as goal

pub returns : goal.returns
returns c = at_rest_none_runs
