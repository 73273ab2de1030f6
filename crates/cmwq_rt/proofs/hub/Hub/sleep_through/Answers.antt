use Rattle.cmwq_rt.specs.Common.{◌≡◌, Entry, IfOk, List, made_by, subst}
use Rattle.cmwq_rt.proofs.Sleeping.{slept_through, tells_of_broken}
use Rattle.cmwq_rt.proofs.hub.Hub.sleep_through.Goals as goal

pub returns-clause-waited : goal.returns-clause-waited
returns-clause-waited g c =
    let e = c.wake_after-hold.ensures in
    let before = c.in-Ok.caller in
    slept_through g.N.HubName.layout g.N.HubName.first_lent c.args.worker.now c.begin_wait-begun.new.worker c.in-Ok.caller
    c.wake_after-hold.new.caller c.wake_after-hold.new.worker c.args.call c.wake_after-hold.result.1
    c.in-Ok.ensures.sleeps c.in-Ok.ensures.allowed e.by_caller
    (subst (λ (xs : List Entry). IfOk c.wake_after-hold.result.1
    (λ _. made_by before.who xs ≡ made_by before.who before.seen)) c.in-Ok.ensures.all e.nothing_yet)
    e.completes e.wakes e.at_once e.sees

pub returns-clause-why : goal.returns-clause-why
returns-clause-why g c =
    tells_of_broken g.N.HubName.layout g.N.HubName.first_lent c.args.worker.now c.wake_after-hold.new.worker c.args.call
    c.wake_after-hold.result.1 c.wake_after-hold.ensures.broke
