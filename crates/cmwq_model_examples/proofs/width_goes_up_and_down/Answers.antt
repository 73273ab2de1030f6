use Rattle.std.proofs.Common.{refl}
use Rattle.cmwq_model_examples.proofs.Definitions.{definitions}
use Rattle.cmwq_model_examples.proofs.width_goes_up_and_down.Goals as goal

pub returns : goal.returns
unfolding definitions
returns c = refl
