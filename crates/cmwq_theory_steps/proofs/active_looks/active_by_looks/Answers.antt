use Rattle.cmwq_theory_steps.proofs.Looks.{active_by_looks}
use Rattle.cmwq_theory_steps.proofs.active_looks.active_by_looks.Goals as goal

pub returns : goal.returns
returns c = active_by_looks
