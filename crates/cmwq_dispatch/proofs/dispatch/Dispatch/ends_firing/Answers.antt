use Rattle.std.proofs.Common.{ap, subst}
use Rattle.cmwq_dispatch.specs.Asleep.{Asleep, SleepOn}
use Rattle.cmwq_dispatch.specs.Dispatched.{Dispatched}
use Rattle.cmwq_dispatch.proofs.dispatch.Dispatch.ends_firing.Goals as goal

pub returns-clause-named : goal.returns-clause-named
returns-clause-named c who =
    subst (λ (a : Asleep). SleepOn who a c.wake_if_over.new.sleepers c.args.wakes.now c.wake_if_over.new.wakes)
    (ap (λ (d : Dispatched). d.asleep) c.self.view_is) (c.wake_if_over.ensures.named who)
