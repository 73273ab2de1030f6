use Rattle.cmwq_theory_steps.proofs.Queued.{queueings_go_on, run_queues_go_on}
use Rattle.cmwq_theory_steps.proofs.PendingSteps.{pending_goes_on, item_runs_go_on, bits_go_on}
use Rattle.cmwq_theory_steps.proofs.queued_steps.queued_go_on.Goals as goal

pub returns : goal.returns
returns c = assumption (queueings_go_on, run_queues_go_on, pending_goes_on, item_runs_go_on, bits_go_on)
