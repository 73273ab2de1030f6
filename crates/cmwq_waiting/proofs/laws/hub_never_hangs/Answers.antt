use Rattle.cmwq_model.specs.Prelude.{past_of}
use Rattle.cmwq_waiting.proofs.Hanging.{hubs_never_hang}
use Rattle.cmwq_waiting.proofs.laws.hub_never_hangs.Goals as goal

pub returns : goal.returns
returns g c =
    hubs_never_hang g.N.HubName.first_lent g.N.HubName.layout (past_of c.args.monitor.now.history)
    c.stands.ensures.layout c.stands.ensures.legal c.stands.ensures.allowed
