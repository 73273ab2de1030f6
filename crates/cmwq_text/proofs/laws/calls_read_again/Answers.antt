use Rattle.cmwq_text.proofs.EntryLaws as laws
use Rattle.cmwq_text.proofs.laws.calls_read_again.Goals as goal

pub returns : goal.returns
returns c = laws.calls_read_again
