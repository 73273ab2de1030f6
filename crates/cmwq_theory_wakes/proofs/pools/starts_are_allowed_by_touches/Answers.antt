use Rattle.cmwq_theory_wakes.proofs.Starting.{starts_allowed}
use Rattle.cmwq_theory_wakes.proofs.pools.starts_are_allowed_by_touches.Goals as goal

pub returns : goal.returns
returns c = starts_allowed
