use Rattle.cmwq_key.proofs.AlikeSearches.{ends_leave_none_stuck, more_moves}
use Rattle.cmwq_key.proofs.alike.more_moves_end.Goals as goal

pub returns : goal.returns
returns c = assumption (more_moves, ends_leave_none_stuck)
