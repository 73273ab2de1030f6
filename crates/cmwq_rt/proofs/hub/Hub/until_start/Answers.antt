use Rattle.cmwq_rt.specs.Common.{subst, Some, View}
use Rattle.cmwq_monitor.specs.declared.monitor.Next.{Next}
use Rattle.cmwq_rt.specs.Running.{IsNext, IsNextStart}
use Rattle.cmwq_rt.proofs.hub.Hub.until_start.Goals as goal

pub returns-in-Ok-Runs-clause-next : goal.returns-in-Ok-Runs-clause-next
returns-in-Ok-Runs-clause-next g c =
    let s = g.N.HubName.layout in
    let w = c.next_start.new.participant in
    subst (λ (v : View). IsNextStart s v (Some c.in-Ok-Runs.item) w) c.loop.invariant.2
    (subst (λ (next : Next). IsNext s c.loop.participant next w) c.in-Ok-Runs.field-0-is c.in-Ok-Runs.ensures.next)
