use Rattle.cmwq_chart_laws.proofs.StandIn.{flat_levels_stand}
use Rattle.cmwq_chart_laws.proofs.standing.flat_levels_stand_at_their_ends.Goals as goal

pub returns : goal.returns
returns c = flat_levels_stand
