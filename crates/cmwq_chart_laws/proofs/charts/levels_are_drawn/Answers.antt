use Rattle.cmwq_chart_laws.proofs.LevelsDrawn.{levels_are_drawn}
use Rattle.cmwq_chart_laws.proofs.charts.levels_are_drawn.Goals as goal

pub returns : goal.returns
returns c = levels_are_drawn
