use Rattle.cmwq_chart_laws.proofs.Shown.{rows_are_drawn}
use Rattle.cmwq_chart_laws.proofs.drawn.rows_are_drawn.Goals as goal

pub returns : goal.returns
returns c = rows_are_drawn
