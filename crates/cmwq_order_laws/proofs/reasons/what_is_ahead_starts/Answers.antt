use Rattle.cmwq_order_laws.proofs.Kept.{what_is_ahead_starts}
use Rattle.cmwq_order_laws.proofs.reasons.what_is_ahead_starts.Goals as goal

pub returns : goal.returns
returns c = what_is_ahead_starts
