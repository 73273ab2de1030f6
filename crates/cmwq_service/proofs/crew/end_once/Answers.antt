use Rattle.std.proofs.Common.{ap, ◌∙◌}
use Rattle.cmwq_monitor.specs.Participants.{View}
use Rattle.cmwq_service.specs.Serving.{may_end}
use Rattle.cmwq_service.proofs.Ending.{has_called}
use Rattle.cmwq_service.proofs.crew.end_once.Goals as goal

pub returns-clause-same : goal.returns-clause-same
returns-clause-same g c = c.end_from.ensures.goes.0 ∙ ap (λ (v : View). v.who) c.requires

pub returns-clause-ended : goal.returns-clause-ended
returns-clause-ended g c =
    has_called g.N.HubName.layout (may_end g.S.Service.ends) c.args.number c.args.caller c.end_from.result.0
    c.end_from.result.1 c.requires c.end_from.ensures.goes c.end_from.ensures.did
