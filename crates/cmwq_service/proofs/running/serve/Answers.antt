use Rattle.std.proofs.Common.{Ok}
use Rattle.cmwq_service.proofs.Ending.{served_outcome}
use Rattle.cmwq_service.proofs.running.serve.Goals as goal

pub returns-in-Ok-clause-served : goal.returns-in-Ok-clause-served
returns-in-Ok-clause-served g c =
    served_outcome c.args.parts.shape c.args.serving.now.waits g.S.Service.does g.S.Service.calls
    g.S.Service.ends
    c.run-rest.result.0.first c.run-rest.result.0.entries.items c.run-rest.result.1 (Ok c.in-Ok.tally)
    c.in-Ok.is c.run-rest.ensures.left
