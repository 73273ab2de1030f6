use Rattle.cmwq_text.proofs.ShapeLaws as laws
use Rattle.cmwq_text.proofs.laws.lines_are_short.Goals as goal

pub returns : goal.returns
returns c = laws.lines_are_short
