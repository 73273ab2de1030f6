use Rattle.std.proofs.Common.{rules}
use Rattle.cmwq_rt.proofs.hub.Hub.loop_on.Goals as goal

pub returns-clause-count : goal.returns-clause-count
returns-clause-count g c = search rules
