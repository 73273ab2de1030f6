use Rattle.cmwq_waits.proofs.Exact.{refusals_are_refused}
use Rattle.cmwq_waits.proofs.laws.refusals_are_exact.Goals as goal

pub returns : goal.returns
returns c = refusals_are_refused
