use Rattle.cmwq_theory_laws.proofs.EndedOnce.{cancelled_never_start}
use Rattle.cmwq_theory_laws.proofs.sanity.cancelled_never_start.Goals as goal

pub returns : goal.returns
returns c = cancelled_never_start
