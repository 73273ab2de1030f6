use Rattle.cmwq_engine.specs.Common.{◌≡◌, ℕ, ◌+◌, true, length, slice_get, Some, IfOk, IfErr, breaks_off}
use Rattle.cmwq_engine.specs.Ended.{CalledAt, AllCalled}
use Rattle.cmwq_engine.proofs.gather.gather_callers.Given as goal

abbrev pub invariant-loop : goal.invariant-loop
invariant-loop g l =
    let s = g.N.HubName.layout in
    let calls = g.C.Crew.calls l.fn.crew in
    (length l.callers.items + l.counter ≡ length l.fn.callers.items)
    × (l.all.parts ≡ l.fn.all.parts + l.counter) × (l.all.amount ≡ l.fn.all.amount + l.answered)
    × ((k : ℕ) (e : _) → slice_get l.callers.items k ≡ Some e
    → IfOk e.outcome (λ full. CalledAt s calls k full e.caller))
    × AllCalled s calls (length l.callers.items) l.counter l.full l.fn.monitor.history
    × ((k : ℕ) (e : _) → slice_get l.callers.items k ≡ Some e → IfErr e.outcome (λ f. breaks_off f ≡ true))
