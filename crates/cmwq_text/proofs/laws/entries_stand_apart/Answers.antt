use Rattle.cmwq_text.proofs.EntryLaws as laws
use Rattle.cmwq_text.proofs.laws.entries_stand_apart.Goals as goal

pub returns : goal.returns
returns c = laws.entries_stand_apart
