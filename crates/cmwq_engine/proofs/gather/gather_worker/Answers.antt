use Rattle.cmwq_engine.specs.Common.{subst, IfOk, Worker, newcomer}
use Rattle.cmwq_engine.specs.Ended.{WorkedFrom}
use Rattle.cmwq_engine.proofs.Gathering.{worked_in}
use Rattle.cmwq_engine.proofs.gather.gather_worker.Goals as goal

pub returns-in_ok-settle_worker-in-Ok-clause-worked : goal.returns-in_ok-settle_worker-in-Ok-clause-worked
returns-in_ok-settle_worker-in-Ok-clause-worked g c x f =
    let s = g.N.HubName.layout in
    let does = g.W.Work.does c.args.work.now s in
    let h = c.args.monitor.now.history in
    let worked =
    subst (λ o. IfOk o (λ w. WorkedFrom s does w.left_out (newcomer (Worker x)) c.args.end.worker)) c.in-Ok.is f in
    worked_in s does x c.in-Ok.worked.left_out c.args.end.worker _ h worked c.in_ok-settle_worker-in-Ok.ensures.settled
