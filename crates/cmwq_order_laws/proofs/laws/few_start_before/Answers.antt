use Rattle.cmwq_order_laws.proofs.Overtaking.{few_start_before}
use Rattle.cmwq_order_laws.proofs.laws.few_start_before.Goals as goal

pub returns : goal.returns
returns c = few_start_before
