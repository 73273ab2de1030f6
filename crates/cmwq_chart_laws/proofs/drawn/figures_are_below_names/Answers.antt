use Rattle.cmwq_chart_laws.proofs.Meant.{figures_are_below_names}
use Rattle.cmwq_chart_laws.proofs.drawn.figures_are_below_names.Goals as goal

pub returns : goal.returns
returns c = figures_are_below_names
