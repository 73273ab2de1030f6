use Rattle.cmwq_output_laws.proofs.Held.{circles_never_end}
use Rattle.cmwq_output_laws.proofs.waits.circles_never_end.Goals as goal

pub returns : goal.returns
returns c = circles_never_end
