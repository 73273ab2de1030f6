use Rattle.cmwq_chart_laws.proofs.SleepsDrawn.{wakes_are_drawn}
use Rattle.cmwq_chart_laws.proofs.marks.wakes_are_drawn.Goals as goal

pub returns : goal.returns
returns c = wakes_are_drawn
