use Rattle.cmwq_dispatch.specs.Dispatched.{dispatched_of}
use Rattle.cmwq_dispatch.proofs.Steady.{stands_leaves, stands_rises}
use Rattle.cmwq_dispatch.proofs.dispatch.Dispatch.awakes.Goals as goal

pub invariant_of-self : goal.invariant_of-self
invariant_of-self c =
    let i = c.self.inside in (
      c.self.invariant.0,
      c.self.invariant.1,
      stands_leaves (dispatched_of i.execution i.closed i.failed i.crowded i.firing i.runs.first i.sleepers)
          c.in-Caller.caller
          c.leaves.new.self c.leaves.ensures c.self.invariant.2,
    )

pub invariant_of-self-in-Worker : goal.invariant_of-self-in-Worker
invariant_of-self-in-Worker c =
    let i = c.self.inside in (
      c.self.invariant.0,
      c.self.invariant.1,
      stands_rises (dispatched_of i.execution i.closed i.failed i.crowded i.firing i.runs.first i.sleepers)
          c.rises.new.self c.rises.ensures.kept c.rises.ensures.nobody c.self.invariant.2,
    )
