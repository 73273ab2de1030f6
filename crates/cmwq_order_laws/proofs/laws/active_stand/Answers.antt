use Rattle.cmwq_order_laws.proofs.Firsts.{active_stand}
use Rattle.cmwq_order_laws.proofs.laws.active_stand.Goals as goal

pub returns : goal.returns
returns c = active_stand
