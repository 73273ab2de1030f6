use Rattle.cmwq_output_laws.proofs.Checked.{steps_pass_check}
use Rattle.cmwq_output_laws.proofs.checks.steps_pass_check.Goals as goal

pub returns : goal.returns
returns c = steps_pass_check
