use Rattle.cmwq_key.proofs.AlikeSearches.{loops_never_end}
use Rattle.cmwq_key.proofs.alike.loops_never_end.Goals as goal

pub returns : goal.returns
returns c = loops_never_end
