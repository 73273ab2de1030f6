use Rattle.cmwq_base.proofs.Spelled as laws
use Rattle.cmwq_base.proofs.laws.histories_are_of_their_format.Goals as goal

pub returns : goal.returns
returns c = laws.histories_are_of_their_format
