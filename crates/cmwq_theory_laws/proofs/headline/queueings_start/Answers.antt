use Rattle.cmwq_theory_laws.proofs.StartedOnce.{starts_earlier}
use Rattle.cmwq_theory_laws.proofs.headline.queueings_start.Goals as goal

pub returns : goal.returns
returns c = starts_earlier
