use Rattle.cmwq_order_laws.proofs.Overtaking.{nothing_comes_between}
use Rattle.cmwq_order_laws.proofs.laws.nothing_comes_between.Goals as goal

pub returns : goal.returns
returns c = nothing_comes_between
