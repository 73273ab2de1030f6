use Rattle.cmwq_rest_laws.proofs.Needed.{some_sleep_for_ever}
use Rattle.cmwq_rest_laws.proofs.laws.some_sleep_for_ever.Goals as goal

pub returns : goal.returns
returns c = some_sleep_for_ever
