use Rattle.cmwq_chart_laws.proofs.Causing.{nothing_else_is_charted}
use Rattle.cmwq_chart_laws.proofs.charts.nothing_else_is_charted.Goals as goal

pub returns : goal.returns
returns c = nothing_else_is_charted
