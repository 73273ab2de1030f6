use Rattle.cmwq_order_laws.proofs.Kept.{what_is_kept_does_not_start}
use Rattle.cmwq_order_laws.proofs.reasons.what_is_kept_does_not_start.Goals as goal

pub returns : goal.returns
returns c = what_is_kept_does_not_start
