use Rattle.cmwq_theory_laws.proofs.Settled.{cancels_settle}
use Rattle.cmwq_theory_laws.proofs.headline.cancel_syncs_settle.Goals as goal

pub returns : goal.returns
returns c = cancels_settle
