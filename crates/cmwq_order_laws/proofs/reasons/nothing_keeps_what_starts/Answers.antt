use Rattle.cmwq_order_laws.proofs.Kept.{nothing_keeps_what_starts}
use Rattle.cmwq_order_laws.proofs.reasons.nothing_keeps_what_starts.Goals as goal

pub returns : goal.returns
returns c = nothing_keeps_what_starts
