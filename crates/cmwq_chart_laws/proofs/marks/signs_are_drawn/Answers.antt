use Rattle.cmwq_chart_laws.proofs.Charted.{signs_are_drawn}
use Rattle.cmwq_chart_laws.proofs.marks.signs_are_drawn.Goals as goal

pub returns : goal.returns
returns c = signs_are_drawn
