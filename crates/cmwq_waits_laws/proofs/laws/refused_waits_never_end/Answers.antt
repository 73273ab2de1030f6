use Rattle.cmwq_waits_laws.proofs.Refused.{refused_waits_never_end}
use Rattle.cmwq_waits_laws.proofs.laws.refused_waits_never_end.Goals as goal

pub returns : goal.returns
returns c = refused_waits_never_end
