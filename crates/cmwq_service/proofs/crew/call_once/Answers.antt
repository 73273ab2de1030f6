use Rattle.std.proofs.Common.{ap, ◌∙◌}
use Rattle.cmwq_monitor.specs.Participants.{View}
use Rattle.cmwq_service.proofs.Ending.{has_called}
use Rattle.cmwq_service.proofs.crew.call_once.Goals as goal

pub returns-clause-same : goal.returns-clause-same
returns-clause-same g c = c.call_from.ensures.goes.0 ∙ ap (λ (v : View). v.who) c.requires

pub returns-clause-called : goal.returns-clause-called
returns-clause-called g c =
    has_called g.N.HubName.layout g.S.Service.calls c.args.number c.args.caller c.call_from.result.0
    c.call_from.result.1 c.requires c.call_from.ensures.goes c.call_from.ensures.did
