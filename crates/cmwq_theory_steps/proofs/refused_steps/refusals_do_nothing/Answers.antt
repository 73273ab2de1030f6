use Rattle.cmwq_theory_steps.proofs.Refusals.{refusals_do_nothing, refusals_change_nothing}
use Rattle.cmwq_theory_steps.proofs.refused_steps.refusals_do_nothing.Goals as goal

pub returns : goal.returns
returns c = assumption (refusals_do_nothing, refusals_change_nothing)
