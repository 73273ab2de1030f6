use Rattle.cmwq_chart_laws.proofs.Numbered.{numbers_are_drawn}
use Rattle.cmwq_chart_laws.proofs.drawn.numbers_are_drawn.Goals as goal

pub returns : goal.returns
returns c = numbers_are_drawn
