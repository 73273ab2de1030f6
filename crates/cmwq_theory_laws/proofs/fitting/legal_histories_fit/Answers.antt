use Rattle.cmwq_theory_laws.proofs.InRange.{legal_histories_fit}
use Rattle.cmwq_theory_laws.proofs.fitting.legal_histories_fit.Goals as goal

pub returns : goal.returns
returns c = legal_histories_fit
