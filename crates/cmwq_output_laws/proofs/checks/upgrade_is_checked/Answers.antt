use Rattle.cmwq_output_laws.proofs.Checked.{upgrade_is_checked}
use Rattle.cmwq_output_laws.proofs.checks.upgrade_is_checked.Goals as goal

pub returns : goal.returns
returns c = upgrade_is_checked
