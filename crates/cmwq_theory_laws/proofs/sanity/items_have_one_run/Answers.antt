use Rattle.cmwq_theory_steps.proofs.OneRun.{one_run}
use Rattle.cmwq_theory_laws.proofs.sanity.items_have_one_run.Goals as goal

pub returns : goal.returns
returns c = one_run
