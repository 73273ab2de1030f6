use Rattle.cmwq_output_laws.proofs.Checked.{upgrades_pass_check}
use Rattle.cmwq_output_laws.proofs.checks.upgrades_pass_check.Goals as goal

pub returns : goal.returns
returns c = upgrades_pass_check
