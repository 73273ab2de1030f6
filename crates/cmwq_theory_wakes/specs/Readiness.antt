-- Which entries make a wait ready to end.
use Rattle.std.specs.Prelude.{◌≡◌, ◌≤◌, ◌==◌, ◌∷◌}
use Rattle.cmwq_theory_steps.specs.Common.{ℕ, Bool, true, false, List, Some, Entry, Queueing, is_some}
use Rattle.cmwq_theory_steps.specs.Common.{waits_for}
use Rattle.cmwq_theory_steps.specs.Histories.{OfEntries}
use Rattle.cmwq_theory_steps.specs.Endings.{ending}
use Rattle.cmwq_model.specs.declared.id.QueueId.{QueueId}
use Rattle.cmwq_model.specs.declared.call.Call.{Call}
use Rattle.cmwq_model.specs.declared.call.Call.TheVariants as call

-- A wait is not ready if it waits for something. Otherwise it is ready.
abbrev pub is_unready : List Entry → ℕ → Call → Bool
is_unready past n c = is_some (waits_for past n c)

-- The end of a queueing may release a wait for its queue or for its item.
abbrev pub may_release : Call → Queueing → Bool
may_release (call.Flush q) x = x.place.queue.0 == q.0
may_release (call.Drain q) x = x.place.queue.0 == q.0
may_release (call.Destroy q) x = x.place.queue.0 == q.0
may_release (call.FlushItem i) x = x.item.0 == i.0
may_release (call.FlushDelayed i) x = x.item.0 == i.0
may_release (call.CancelSync i) x = x.item.0 == i.0
may_release c x = false

-- The entry ends a queueing whose end may release the wait.
pub record Releases (past : List Entry) (e : Entry) (c : Call) : Type 0 where
  pub queueing : Queueing
  pub ends : ending past e ≡ Some queueing
  pub released : may_release c queueing ≡ true

-- A wait that is not ready before an entry, and ready after it, was released by the entry.
abbrev pub WaitsGetReadyByEndings : Type 0
WaitsGetReadyByEndings =
    OfEntries (λ s past e. (n : ℕ) (c : Call) → is_unready past n c ≡ true → is_unready (e ∷ past) n c ≡ false
    → Releases past e c)

-- In any history: if a flush of a queue is not ready, so is each later flush of that queue.
abbrev pub FlushesGetReadyInOrder : Type 0
FlushesGetReadyInOrder = (past : List Entry) (q : QueueId) (m n : ℕ) → m ≤ n
    → is_unready past m (call.Flush q) ≡ true → is_unready past n (call.Flush q) ≡ true
