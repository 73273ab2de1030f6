use Rattle.cmwq_engine.specs.Common.{◌≡◌, ℕ, ◌+◌, length, slice_get, Some, View, newcomer}
use Rattle.cmwq_engine.specs.Conduct.{caller_numbered}
use Rattle.cmwq_engine.proofs.start.idle_callers.Given as goal

abbrev pub invariant-loop : goal.invariant-loop
invariant-loop g l =
    (l.participants.callers ≡ l.fn.participants.callers + length l.callers.items)
    × (l.participants.workers ≡ l.fn.participants.workers)
    × ((k : ℕ) (c : View) → slice_get l.callers.items k ≡ Some c
    → c ≡ newcomer (caller_numbered (l.fn.participants.callers + k)))
