use Rattle.cmwq_theory_wakes.proofs.Attended.{runners_are_enlisted}
use Rattle.cmwq_theory_wakes.proofs.pools.runners_are_enlisted.Goals as goal

pub returns : goal.returns
returns c = runners_are_enlisted
