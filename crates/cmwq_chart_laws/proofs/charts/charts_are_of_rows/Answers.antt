use Rattle.cmwq_chart_laws.proofs.ChartRows.{charts_are_of_rows}
use Rattle.cmwq_chart_laws.proofs.charts.charts_are_of_rows.Goals as goal

pub returns : goal.returns
returns c = charts_are_of_rows
