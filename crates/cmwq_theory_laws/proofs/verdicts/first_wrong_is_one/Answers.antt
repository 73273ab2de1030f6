use Rattle.cmwq_theory_laws.proofs.FirstWrong.{first_wrong_is_one}
use Rattle.cmwq_theory_laws.proofs.verdicts.first_wrong_is_one.Goals as goal

pub returns : goal.returns
returns c = first_wrong_is_one
