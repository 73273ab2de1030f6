use Rattle.cmwq_chart_laws.proofs.AtEdges.{figures_have_edges}
use Rattle.cmwq_chart_laws.proofs.edges.figures_have_edges.Goals as goal

pub returns : goal.returns
returns c = figures_have_edges
