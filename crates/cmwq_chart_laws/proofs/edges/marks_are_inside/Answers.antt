use Rattle.cmwq_chart_laws.proofs.AtEdges.{marks_are_inside}
use Rattle.cmwq_chart_laws.proofs.edges.marks_are_inside.Goals as goal

pub returns : goal.returns
returns c = marks_are_inside
