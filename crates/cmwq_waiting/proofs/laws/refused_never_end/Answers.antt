use Rattle.cmwq_waiting.proofs.Refused.{refused_never_end}
use Rattle.cmwq_waiting.proofs.laws.refused_never_end.Goals as goal

pub returns : goal.returns
returns c = refused_never_end
