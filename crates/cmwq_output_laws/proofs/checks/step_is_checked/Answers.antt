use Rattle.cmwq_output_laws.proofs.Checked.{step_is_checked}
use Rattle.cmwq_output_laws.proofs.checks.step_is_checked.Goals as goal

pub returns : goal.returns
returns c = step_is_checked
