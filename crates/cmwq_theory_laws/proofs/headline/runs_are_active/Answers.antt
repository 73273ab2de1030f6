use Rattle.cmwq_theory_laws.proofs.Width.{runs_within_active}
use Rattle.cmwq_theory_laws.proofs.headline.runs_are_active.Goals as goal

pub returns : goal.returns
returns c = runs_within_active
