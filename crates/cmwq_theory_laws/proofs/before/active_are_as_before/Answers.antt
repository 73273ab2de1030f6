use Rattle.cmwq_theory_laws.proofs.AsBefore.{all_as_before}
use Rattle.cmwq_theory_laws.proofs.before.active_are_as_before.Goals as goal

pub returns : goal.returns
returns c = all_as_before
