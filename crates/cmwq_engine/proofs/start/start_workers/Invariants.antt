use Rattle.cmwq_engine.specs.Common.{◌≡◌, ℕ, ◌+◌, length, slice_get, Some, WorkerId, Worker, newcomer, worker_by_number}
use Rattle.cmwq_engine.proofs.start.start_workers.Given as goal

abbrev pub invariant-loop : goal.invariant-loop
invariant-loop g l =
    let s = g.N.HubName.layout in
    (l.participants.next ≡ worker_by_number s (length l.threads.items))
    × (l.participants.workers ≡ l.fn.participants.workers + length l.threads.items)
    × (l.participants.callers ≡ l.fn.participants.callers)
    × ((k : ℕ) (h : _) → slice_get l.threads.items k ≡ Some h → (x : WorkerId) × (worker_by_number s k ≡ Some x)
    × (h.promise.worker.value ≡ newcomer (Worker x)) × (h.promise.work.value ≡ l.fn.shared.work.now))
