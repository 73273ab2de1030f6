use Rattle.cmwq_output_laws.proofs.Held.{runs_hold_waits}
use Rattle.cmwq_output_laws.proofs.waits.runs_hold_waits.Goals as goal

pub returns : goal.returns
returns c = runs_hold_waits
