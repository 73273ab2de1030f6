use Rattle.cmwq_chart_laws.proofs.Meant.{nothing_else_is_drawn}
use Rattle.cmwq_chart_laws.proofs.drawn.nothing_else_is_drawn.Goals as goal

pub returns : goal.returns
returns c = nothing_else_is_drawn
