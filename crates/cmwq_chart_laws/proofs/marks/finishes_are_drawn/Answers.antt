use Rattle.cmwq_chart_laws.proofs.FinishesDrawn.{finishes_are_drawn}
use Rattle.cmwq_chart_laws.proofs.marks.finishes_are_drawn.Goals as goal

pub returns : goal.returns
returns c = finishes_are_drawn
