use Rattle.std.proofs.Common.{subst}
use Rattle.std.specs.Prelude.{IfErr, IfOk}
use Rattle.cmwq_core.specs.Relied.{IsReliable}
use Rattle.cmwq_model.specs.Prelude.{Layout, past_of}
use Rattle.cmwq_service.specs.Serving.{IsServed}
use Rattle.cmwq_service.proofs.running.run_with_waits.Goals as goal

pub returns-in-Ok-keeping_all-clause-served : goal.returns-in-Ok-keeping_all-clause-served
returns-in-Ok-keeping_all-clause-served g c =
    subst (λ (s : Layout). IfOk c.run_served.result
    (λ history. IsServed s c.args.waits g.S.Service.calls g.S.Service.ends g.S.Service.does history.items))
    c.in-Ok-keeping_all.ensures.shape
    (subst (λ w.
    IfOk c.run_served.result
    (λ history. IsServed c.in-Ok-keeping_all.parts.shape w g.S.Service.calls g.S.Service.ends g.S.Service.does
    history.items))
    c.in-Ok.ensures c.run_served.ensures.served)

pub returns-in-Ok-keeping_all-clause-stopped : goal.returns-in-Ok-keeping_all-clause-stopped
returns-in-Ok-keeping_all-clause-stopped g c =
    subst (λ (s : Layout). IfErr c.run_served.result (λ t. IsReliable s (past_of t.history.items)))
    c.in-Ok-keeping_all.ensures.shape c.run_served.ensures.stopped

pub returns-in-Err-clause-stopped : goal.returns-in-Err-clause-stopped
returns-in-Err-clause-stopped g c = c.stopped_at_first.ensures c.args.shape.now

pub returns-clause-stopped : goal.returns-clause-stopped
returns-clause-stopped g c = c.stopped_at_first-in-Err-keeping_all.ensures c.args.shape.now
