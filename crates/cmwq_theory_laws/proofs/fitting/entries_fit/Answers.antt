use Rattle.cmwq_theory_laws.proofs.InRange.{entries_fit}
use Rattle.cmwq_theory_laws.proofs.fitting.entries_fit.Goals as goal

pub returns : goal.returns
returns c = entries_fit
