use Rattle.cmwq_key.proofs.AlikeSearches.{ends_alike, gets_stuck_alike, stuck_alike}
use Rattle.cmwq_key.proofs.alike.alike_stands_end_alike.Goals as goal

pub returns : goal.returns
returns c = assumption (ends_alike, stuck_alike, gets_stuck_alike)
