use Rattle.cmwq_theory_steps.proofs.Worklist.{worklist_is}
use Rattle.cmwq_theory_laws.proofs.fidelity.worklists_are_in_order.Goals as goal

pub returns : goal.returns
returns c = worklist_is
