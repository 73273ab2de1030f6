use Rattle.cmwq_order_laws.proofs.Overtaking.{items_stay_free}
use Rattle.cmwq_order_laws.proofs.laws.items_stay_free.Goals as goal

pub returns : goal.returns
returns c = items_stay_free
