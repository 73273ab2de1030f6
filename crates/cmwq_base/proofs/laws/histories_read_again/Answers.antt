use Rattle.cmwq_base.proofs.Again as laws
use Rattle.cmwq_base.proofs.laws.histories_read_again.Goals as goal

pub returns : goal.returns
returns c = laws.histories_read_again
