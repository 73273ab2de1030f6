use Rattle.cmwq_theory_wakes.proofs.Attended.{stay_attended}
use Rattle.cmwq_theory_wakes.proofs.pools.pools_stay_attended.Goals as goal

pub returns : goal.returns
returns c = stay_attended
