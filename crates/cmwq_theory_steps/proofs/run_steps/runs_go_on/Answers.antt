use Rattle.cmwq_theory_steps.proofs.RunSteps.{workers_run_on}
use Rattle.cmwq_theory_steps.proofs.ItemSteps.{items_run_on, items_are_run}
use Rattle.cmwq_theory_steps.proofs.run_steps.runs_go_on.Goals as goal

pub returns : goal.returns
returns c = assumption (workers_run_on, items_run_on, items_are_run)
