use Rattle.cmwq_theory_laws.proofs.Waits.{waits_for_least}
use Rattle.cmwq_theory_laws.proofs.fidelity.tickets_wait_for_least.Goals as goal

pub returns : goal.returns
returns c = waits_for_least
