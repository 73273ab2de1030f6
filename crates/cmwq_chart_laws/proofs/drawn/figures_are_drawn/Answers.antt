use Rattle.cmwq_chart_laws.proofs.Shown.{figures_are_drawn}
use Rattle.cmwq_chart_laws.proofs.drawn.figures_are_drawn.Goals as goal

pub returns : goal.returns
returns c = figures_are_drawn
