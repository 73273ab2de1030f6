use Rattle.cmwq_chart_laws.proofs.SleepsDrawn.{sleeps_are_drawn}
use Rattle.cmwq_chart_laws.proofs.marks.sleeps_are_drawn.Goals as goal

pub returns : goal.returns
returns c = sleeps_are_drawn
