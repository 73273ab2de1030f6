use Rattle.cmwq_chart_laws.proofs.RowNumbers.{rows_are_told_apart}
use Rattle.cmwq_chart_laws.proofs.drawn.rows_are_told_apart.Goals as goal

pub returns : goal.returns
returns c = rows_are_told_apart
