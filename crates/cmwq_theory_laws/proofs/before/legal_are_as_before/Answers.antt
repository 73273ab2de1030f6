use Rattle.cmwq_theory_laws.proofs.AsBefore.{legal_as_before}
use Rattle.cmwq_theory_laws.proofs.before.legal_are_as_before.Goals as goal

pub returns : goal.returns
returns c = legal_as_before
