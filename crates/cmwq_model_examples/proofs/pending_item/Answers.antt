use Rattle.std.proofs.Common.{refl}
use Rattle.cmwq_model_examples.proofs.Definitions.{definitions}
use Rattle.cmwq_model_examples.proofs.pending_item.Goals as goal

pub returns : goal.returns
unfolding definitions
returns c = refl
