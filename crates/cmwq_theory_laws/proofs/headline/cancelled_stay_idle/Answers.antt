use Rattle.cmwq_theory_laws.proofs.Cancelling.{cancelling_idle}
use Rattle.cmwq_theory_laws.proofs.headline.cancelled_stay_idle.Goals as goal

pub returns : goal.returns
returns c = λ s past legal i held. cancelling_idle s past i legal held
