use Rattle.cmwq_waiting.proofs.Waits.{pairs_add_one}
use Rattle.cmwq_waiting.proofs.laws.pairs_add_one.Goals as goal

pub returns : goal.returns
returns c = pairs_add_one
