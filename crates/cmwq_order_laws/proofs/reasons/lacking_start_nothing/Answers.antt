use Rattle.cmwq_order_laws.proofs.Kept.{lacking_start_nothing}
use Rattle.cmwq_order_laws.proofs.reasons.lacking_start_nothing.Goals as goal

pub returns : goal.returns
returns c = lacking_start_nothing
