use Rattle.cmwq_base.proofs.Whole as laws
use Rattle.cmwq_base.proofs.laws.fronts_are_whole_lines.Goals as goal

pub returns : goal.returns
returns c = laws.fronts_are_whole_lines
