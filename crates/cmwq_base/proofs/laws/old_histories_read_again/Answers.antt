use Rattle.cmwq_base.proofs.Again as laws
use Rattle.cmwq_base.proofs.laws.old_histories_read_again.Goals as goal

pub returns : goal.returns
returns c = laws.old_histories_read_again
