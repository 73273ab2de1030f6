use Rattle.cmwq_theory_wakes.proofs.Reaching.{reach_suffices}
use Rattle.cmwq_theory_wakes.proofs.steps.reach_suffices.Goals as goal

pub returns : goal.returns
returns c = reach_suffices
