use Rattle.cmwq_chart_laws.proofs.Charted.{charts_are_of_parts}
use Rattle.cmwq_chart_laws.proofs.charts.charts_are_of_parts.Goals as goal

pub returns : goal.returns
returns c = charts_are_of_parts
