use Rattle.cmwq_chart_laws.proofs.AtEdges.{columns_are_apart}
use Rattle.cmwq_chart_laws.proofs.edges.columns_are_apart.Goals as goal

pub returns : goal.returns
returns c = columns_are_apart
