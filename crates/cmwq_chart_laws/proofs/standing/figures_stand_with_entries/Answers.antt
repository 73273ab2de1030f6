use Rattle.cmwq_chart_laws.proofs.StandIn.{figures_stand_with_entries}
use Rattle.cmwq_chart_laws.proofs.standing.figures_stand_with_entries.Goals as goal

pub returns : goal.returns
returns c = figures_stand_with_entries
