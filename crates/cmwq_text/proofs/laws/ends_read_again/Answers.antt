use Rattle.cmwq_text.proofs.EndLaws as laws
use Rattle.cmwq_text.proofs.laws.ends_read_again.Goals as goal

pub returns : goal.returns
returns c = laws.ends_read_again
