use Rattle.cmwq_chart_laws.proofs.WaitsDrawn.{tickets_are_drawn}
use Rattle.cmwq_chart_laws.proofs.charts.tickets_are_drawn.Goals as goal

pub returns : goal.returns
returns c = tickets_are_drawn
