use Rattle.cmwq_chart_laws.proofs.AtEdges.{bars_do_not_overlap}
use Rattle.cmwq_chart_laws.proofs.edges.bars_do_not_overlap.Goals as goal

pub returns : goal.returns
returns c = bars_do_not_overlap
