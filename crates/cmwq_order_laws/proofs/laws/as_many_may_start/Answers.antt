use Rattle.cmwq_order_laws.proofs.Needed.{as_many_may_start}
use Rattle.cmwq_order_laws.proofs.laws.as_many_may_start.Goals as goal

pub returns : goal.returns
returns c = as_many_may_start
