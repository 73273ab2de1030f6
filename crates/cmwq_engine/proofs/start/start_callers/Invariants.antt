use Rattle.cmwq_engine.specs.Common.{◌≡◌, ℕ, length, slice_get, Some}
use Rattle.cmwq_engine.proofs.start.start_callers.Given as goal

abbrev pub invariant-loop-number : goal.invariant-loop-number
invariant-loop-number g l =
    (length l.threads.items ≡ l.number) × (l.participants ≡ record l.fn.participants { callers = l.number })
    × ((k : ℕ) (h : _) → slice_get l.threads.items k ≡ Some h
    → (h.promise.number ≡ k) × (h.promise.crew.value ≡ l.fn.shared.crew.now))
