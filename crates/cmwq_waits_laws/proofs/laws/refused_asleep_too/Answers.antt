use Rattle.cmwq_waits_laws.proofs.StillRefused.{refused_asleep_too}
use Rattle.cmwq_waits_laws.proofs.laws.refused_asleep_too.Goals as goal

pub returns : goal.returns
returns c = refused_asleep_too
