use Rattle.cmwq_chart_laws.proofs.EndsDrawn.{ends_are_drawn}
use Rattle.cmwq_chart_laws.proofs.marks.ends_are_drawn.Goals as goal

pub returns : goal.returns
returns c = ends_are_drawn
