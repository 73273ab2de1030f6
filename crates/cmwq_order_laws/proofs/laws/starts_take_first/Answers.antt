use Rattle.cmwq_order_laws.proofs.Firsts.{starts_take_first}
use Rattle.cmwq_order_laws.proofs.laws.starts_take_first.Goals as goal

pub returns : goal.returns
returns c = starts_take_first
