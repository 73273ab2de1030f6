use Rattle.cmwq_base.proofs.Again as laws
use Rattle.cmwq_base.proofs.laws.call_files_read_again.Goals as goal

pub returns : goal.returns
returns c = laws.call_files_read_again
