use Rattle.cmwq_theory_laws.proofs.Gone.{gone_stay_empty}
use Rattle.cmwq_theory_laws.proofs.destroys.gone_stay_empty.Goals as goal

pub returns : goal.returns
returns c = gone_stay_empty
