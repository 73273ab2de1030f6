use Rattle.cmwq_order_laws.proofs.Overtaking.{none_overtakes}
use Rattle.cmwq_order_laws.proofs.laws.none_overtakes.Goals as goal

pub returns : goal.returns
returns c = none_overtakes
