use Rattle.cmwq_chart_laws.proofs.Charted.{starts_are_drawn}
use Rattle.cmwq_chart_laws.proofs.marks.starts_are_drawn.Goals as goal

pub returns : goal.returns
returns c = starts_are_drawn
