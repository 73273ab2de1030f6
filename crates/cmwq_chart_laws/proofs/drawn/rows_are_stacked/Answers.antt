use Rattle.cmwq_chart_laws.proofs.Stacked.{rows_are_stacked}
use Rattle.cmwq_chart_laws.proofs.drawn.rows_are_stacked.Goals as goal

pub returns : goal.returns
returns c = rows_are_stacked
