use Rattle.cmwq_theory_laws.proofs.FirstWrong.{wrong_are_illegal}
use Rattle.cmwq_theory_laws.proofs.verdicts.wrong_are_illegal.Goals as goal

pub returns : goal.returns
returns c = wrong_are_illegal
