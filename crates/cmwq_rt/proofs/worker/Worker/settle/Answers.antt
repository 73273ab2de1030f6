use Rattle.cmwq_rt.specs.Common.{subst, IfOk, View, Settles}
use Rattle.cmwq_rt.proofs.worker.Worker.settle.Goals as goal

pub returns-clause-settled : goal.returns-clause-settled
returns-clause-settled g c =
    subst (λ (v : View). IfOk c.settle.result (λ _. Settles c.args.monitor.now.history v c.settle.new.participant))
    c.self.view_is c.settle.ensures.settled
