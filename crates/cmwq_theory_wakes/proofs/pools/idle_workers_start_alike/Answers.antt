use Rattle.cmwq_theory_wakes.proofs.Starting.{idle_start_alike}
use Rattle.cmwq_theory_wakes.proofs.pools.idle_workers_start_alike.Goals as goal

pub returns : goal.returns
returns c = idle_start_alike
