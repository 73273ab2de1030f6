use Rattle.cmwq_explore.proofs.Searching.{stuck_long}
use Rattle.cmwq_explore.proofs.search.stuck_are_long.Goals as goal

pub returns : goal.returns
returns c = stuck_long
