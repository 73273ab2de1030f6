use Rattle.cmwq_engine.specs.Common.{◌≡◌, ℕ, ◌+◌, true, length, slice_get, Some, IfOk, IfErr, WorkerId}
use Rattle.cmwq_engine.specs.Common.{Worker, newcomer, worker_by_number, breaks_off}
use Rattle.cmwq_engine.specs.Ended.{AllWorkedFrom, WorkedFrom}
use Rattle.cmwq_engine.proofs.gather.gather_workers.Given as goal

abbrev pub invariant-loop : goal.invariant-loop
invariant-loop g l =
    let s = g.N.HubName.layout in
    let does = g.W.Work.does l.fn.work s in
    (length l.workers.items + l.counter ≡ length l.fn.workers.items) × (l.all.parts ≡ l.fn.all.parts + l.counter)
    × (l.all.amount ≡ l.fn.all.amount + l.answered)
    × ((k : ℕ) (e : _) → slice_get l.workers.items k ≡ Some e → IfErr e.outcome (λ f. breaks_off f ≡ true))
    × ((k : ℕ) (e : _) → slice_get l.workers.items k ≡ Some e → (x : WorkerId) × (worker_by_number s k ≡ Some x)
    × IfOk e.outcome (λ t. WorkedFrom s does t.left_out (newcomer (Worker x)) e.worker))
    × AllWorkedFrom s does (length l.workers.items) l.counter l.left_out l.fn.monitor.history
