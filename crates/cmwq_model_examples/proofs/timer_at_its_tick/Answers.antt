use Rattle.std.proofs.Common.{refl}
use Rattle.cmwq_model_examples.proofs.Definitions.{definitions}
use Rattle.cmwq_model_examples.proofs.timer_at_its_tick.Goals as goal

pub returns : goal.returns
unfolding definitions
returns c = refl
