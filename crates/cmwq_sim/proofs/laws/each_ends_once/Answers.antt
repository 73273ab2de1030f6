use Rattle.cmwq_sim.proofs.Once.{each_ends_once}
use Rattle.cmwq_sim.proofs.laws.each_ends_once.Goals as goal

pub returns : goal.returns
returns c = each_ends_once
