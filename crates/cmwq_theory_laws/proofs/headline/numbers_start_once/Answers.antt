use Rattle.cmwq_theory_laws.proofs.StartedOnce.{started_once}
use Rattle.cmwq_theory_laws.proofs.headline.numbers_start_once.Goals as goal

pub returns : goal.returns
returns c = started_once
