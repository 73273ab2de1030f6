use Rattle.cmwq_base.proofs.Spelled as laws
use Rattle.cmwq_base.proofs.laws.histories_have_one_text.Goals as goal

pub returns : goal.returns
returns c = laws.histories_have_one_text
