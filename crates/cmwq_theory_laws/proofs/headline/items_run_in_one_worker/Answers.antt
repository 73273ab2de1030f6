use Rattle.cmwq_theory_laws.proofs.OneWorker.{runs_in_one_worker}
use Rattle.cmwq_theory_laws.proofs.headline.items_run_in_one_worker.Goals as goal

pub returns : goal.returns
returns c = runs_in_one_worker
