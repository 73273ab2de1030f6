use Rattle.cmwq_output_laws.proofs.Checked.{legal_histories_are_checked}
use Rattle.cmwq_output_laws.proofs.checks.legal_histories_are_checked.Goals as goal

pub returns : goal.returns
returns c = legal_histories_are_checked
