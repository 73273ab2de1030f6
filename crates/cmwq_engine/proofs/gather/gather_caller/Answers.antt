use Rattle.cmwq_engine.specs.Common.{sym, subst, ℕ, IfOk}
use Rattle.cmwq_engine.specs.Ended.{CalledAt, CalledIn}
use Rattle.cmwq_engine.proofs.Gathering.{called_in}
use Rattle.cmwq_engine.proofs.gather.gather_caller.Goals as goal

pub returns-in_ok-settle_caller-in-Ok-clause-called : goal.returns-in_ok-settle_caller-in-Ok-clause-called
returns-in_ok-settle_caller-in-Ok-clause-called g c k f =
    let s = g.N.HubName.layout in
    let calls = g.C.Crew.calls c.args.crew.now in
    let h = c.args.monitor.now.history in
    let called = subst (λ o. IfOk o (λ full. CalledAt s calls k full c.args.end.caller)) c.in-Ok.is f in
    subst (λ (n : ℕ). CalledIn s calls k n h) (sym c.from.ensures)
    (called_in s calls k c.in-Ok.full c.args.end.caller _ h called c.in_ok-settle_caller-in-Ok.ensures.settled)
