use Rattle.cmwq_theory_wakes.proofs.Stepping.{none_is_forgotten}
use Rattle.cmwq_theory_wakes.proofs.steps.none_is_forgotten.Goals as goal

pub returns : goal.returns
returns c = none_is_forgotten
