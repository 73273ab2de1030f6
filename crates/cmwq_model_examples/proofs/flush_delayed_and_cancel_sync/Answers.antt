use Rattle.std.proofs.Common.{refl}
use Rattle.cmwq_model_examples.proofs.Definitions.{definitions}
use Rattle.cmwq_model_examples.proofs.flush_delayed_and_cancel_sync.Goals as goal

pub returns : goal.returns
unfolding definitions
returns c = refl
