use Rattle.cmwq_theory_laws.proofs.AsBefore.{none_gone}
use Rattle.cmwq_theory_laws.proofs.before.none_gone_before.Goals as goal

pub returns : goal.returns
returns c = none_gone
