use Rattle.cmwq_theory_laws.proofs.StartsActive.{only_active_start}
use Rattle.cmwq_theory_laws.proofs.headline.only_active_start.Goals as goal

pub returns : goal.returns
returns c = only_active_start
