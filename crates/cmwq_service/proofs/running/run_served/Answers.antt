use Rattle.cmwq_service.proofs.running.run_served.Goals as goal

pub returns-clause-served : goal.returns-clause-served
returns-clause-served g c =
    c.give_all.ensures.served c.args.parts.shape c.args.serving.now.waits c.serve-rest.ensures.served

pub returns-clause-stopped : goal.returns-clause-stopped
returns-clause-stopped g c = c.give_all.ensures.stopped c.args.parts.shape c.serve-rest.ensures.rest
