use Rattle.cmwq_theory_steps.proofs.Active.{active_are_first}
use Rattle.cmwq_theory_laws.proofs.fidelity.active_are_first.Goals as goal

pub returns : goal.returns
returns c = active_are_first
