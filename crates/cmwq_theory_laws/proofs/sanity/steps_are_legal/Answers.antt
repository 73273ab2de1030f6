use Rattle.cmwq_theory_laws.proofs.OneEntry.{steps_are_legal}
use Rattle.cmwq_theory_laws.proofs.sanity.steps_are_legal.Goals as goal

pub returns : goal.returns
returns c = steps_are_legal
