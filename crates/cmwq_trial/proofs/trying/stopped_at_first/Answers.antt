use Rattle.cmwq_service.proofs.Ending.{nothing_made}
use Rattle.cmwq_trial.proofs.trying.stopped_at_first.Goals as goal

pub returns-clause-reliable : goal.returns-clause-reliable
returns-clause-reliable c s = nothing_made s c.new.result.items c.new.ensures.items
