use Rattle.cmwq_theory_steps.proofs.ItemRuns.{runs_are_items}
use Rattle.cmwq_theory_laws.proofs.fidelity.runs_are_items.Goals as goal

pub returns : goal.returns
returns c = runs_are_items
