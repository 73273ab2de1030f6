use Rattle.cmwq_text.proofs.ShapeLaws as laws
use Rattle.cmwq_text.proofs.laws.queues_spelled_so.Goals as goal

pub returns : goal.returns
returns c = laws.queues_spelled_so
