use Rattle.cmwq_engine.specs.Common.{◌≡◌, ℕ, ◌+◌, ◌<◌, ◌≤◌, [], length, slice_get, Some, View, newcomer, made_by}
use Rattle.cmwq_engine.specs.Conduct.{caller_numbered}
use Rattle.cmwq_engine.specs.Ended.{used}
use Rattle.cmwq_engine.proofs.gather.gather_idle.Given as goal

abbrev pub invariant-loop : goal.invariant-loop
invariant-loop g l =
    let first = used (g.C.Crew.roles l.fn.crew g.N.HubName.layout) in
    (length l.idle.items + l.counter ≡ length l.fn.idle.items) × (l.all.parts ≡ l.fn.all.parts + l.counter)
    × (l.all.amount ≡ l.fn.all.amount)
    × ((k : ℕ) (c : View) → slice_get l.idle.items k ≡ Some c → c ≡ newcomer (caller_numbered (first + k)))
    × ((k : ℕ) → first + length l.idle.items ≤ k → k < first + length l.fn.idle.items
    → made_by (caller_numbered k) l.fn.monitor.history ≡ [])
