use Rattle.cmwq_text.proofs.EntryLaws as laws
use Rattle.cmwq_text.proofs.laws.calls_spelled_so.Goals as goal

pub returns : goal.returns
returns c = laws.calls_spelled_so
