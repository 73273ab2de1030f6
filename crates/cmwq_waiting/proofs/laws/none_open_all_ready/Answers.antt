use Rattle.cmwq_waiting.proofs.AtRest.{none_open_all_ready}
use Rattle.cmwq_waiting.proofs.laws.none_open_all_ready.Goals as goal

pub returns : goal.returns
returns c = none_open_all_ready
