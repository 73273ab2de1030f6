use Rattle.cmwq_state.specs.Common.{arith, length-reverse}
use Rattle.cmwq_state.proofs.state.State.len.Goals as goal

pub returns-clause-needed : goal.returns-clause-needed
returns-clause-needed c = grind (arith, length-reverse)
