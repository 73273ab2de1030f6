use Rattle.cmwq_engine.specs.Common.{◌≡◌, ℕ, ◌+◌, ◌<◌, ◌≤◌, length}
use Rattle.cmwq_engine.specs.Ended.{WaitedIn}
use Rattle.cmwq_engine.proofs.gather.gather_lent.Given as goal

abbrev pub invariant-loop-after : goal.invariant-loop-after
invariant-loop-after g l =
    (length l.lent.items + l.after ≡ length l.fn.lent.items) × (l.all.parts ≡ l.fn.all.parts + l.after)
    × (l.all.amount ≡ l.fn.all.amount + l.answered)
    × ((k : ℕ) → l.first ≤ k → k < l.first + l.after → WaitedIn g.N.HubName.layout k l.fn.monitor.history)
