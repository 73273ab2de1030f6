-- What a user of the runtime relies on, as laws of every legal history.
use Rattle.std.specs.Prelude.{◌≡◌, ◌≤◌, ◌&&◌, ◌||◌, ◌==◌, ◌∷◌}
use Rattle.cmwq_theory_laws.specs.Common.{ℕ, Bool, true, false, List, length, count_by, Some, option_and_then, is_some}
use Rattle.cmwq_theory_laws.specs.Common.{nat_lt, nat_le, AllByRecursion, IsDistinct, WorkerId, Call, Entry, Queueing}
use Rattle.cmwq_theory_laws.specs.Common.{Layout, width, is_active, newly_active, is_at, same_worker, entry_at, item_at}
use Rattle.cmwq_theory_laws.specs.Common.{starts, is_finished, is_cancelled, run, item_runs, queueings, queueing_at}
use Rattle.cmwq_theory_laws.specs.Common.{run_queue, is_pending, is_cancelling, open_on, active_count, OfLegal}
use Rattle.cmwq_theory_laws.specs.Common.{OfEachEntry, IsDone}
use Rattle.cmwq_model.specs.declared.call.Call.TheVariants as call

-- ---- no two workers have runs of one item

abbrev pub worker_runs_item : List Entry → ℕ → WorkerId → Bool
worker_runs_item past i w = is_at (option_and_then (item_at past) (run past w)) i

abbrev pub RunsInOneWorker : List Entry → Type 0
RunsInOneWorker past = (i : ℕ) (v w : WorkerId) → worker_runs_item past i v ≡ true → worker_runs_item past i w ≡ true
    → v ≡ w

abbrev pub ItemsRunInOneWorker : Type 0
ItemsRunInOneWorker = OfLegal (λ s. RunsInOneWorker)

-- ---- a number is started at most once, and only where an earlier entry opened a queueing under it

abbrev pub StartedOnce : List Entry → Type 0
StartedOnce past = (n : ℕ) → count_by (starts n) past ≤ 1

abbrev pub NumbersStartOnce : Type 0
NumbersStartOnce = OfLegal (λ s. StartedOnce)

abbrev pub StartsEarlier : List Entry → Type 0
StartsEarlier = OfEachEntry (λ past e. (n : ℕ) → starts n e ≡ true → is_some (queueing_at past n) ≡ true)

abbrev pub QueueingsStart : Type 0
QueueingsStart = OfLegal (λ s. StartsEarlier)

-- ---- in any history: where an entry makes a queueing active, no more than the width that then holds of its queue are active on its CPU after it

abbrev pub WithinWidthAfter : Layout → List Entry → Entry → Type 0
WithinWidthAfter s past e =
    AllByRecursion
    (λ x. count_by (is_active s (e ∷ past)) (open_on (e ∷ past) x.place.queue.0 x.place.cpu.0) ≤ width s (e ∷ past)
    x.place.queue.0) (newly_active s past e)

abbrev pub ActiveWithinWidth : Type 0
ActiveWithinWidth = (s : Layout) (past : List Entry) → OfEachEntry (WithinWidthAfter s) past

-- ---- and only active ones are started, so of the workers of a CPU no more have runs of a queue than are active there

abbrev pub StartsActive : Layout → List Entry → Type 0
StartsActive s =
    OfEachEntry (λ past e. (n : ℕ) (x : Queueing) → starts n e ≡ true → queueing_at past n ≡ Some x
    → is_active s past x ≡ true)

abbrev pub OnlyActiveStart : Type 0
OnlyActiveStart = OfLegal StartsActive

abbrev pub runs_queue_on : List Entry → ℕ → ℕ → WorkerId → Bool
runs_queue_on past q c w = is_at (run_queue past w) q && (w.pool.cpu.0 == c)

abbrev pub RunsWithinActive : Layout → List Entry → Type 0
RunsWithinActive s past = (q c : ℕ) (ws : List WorkerId) → IsDistinct same_worker ws
    → AllByRecursion (λ w. runs_queue_on past q c w ≡ true) ws → length ws ≤ active_count s past q c

abbrev pub RunsAreActive : Type 0
RunsAreActive = OfLegal RunsWithinActive

-- ---- where the end of a ticket is answered done, what was queued before the wait has ended

-- A flush of a queue waits for the queueings of the queue with lesser numbers than its own, a flush of an item for
-- those of the item up to its own number, a drain and a destroy for all of its queue.
abbrev pub is_waited_for : Call → ℕ → Queueing → Bool
is_waited_for (call.Flush q) t x = (x.place.queue.0 == q.0) && nat_lt x.number t
is_waited_for (call.FlushItem i) t x = (x.item.0 == i.0) && nat_le x.number t
is_waited_for (call.FlushDelayed i) t x = (x.item.0 == i.0) && nat_le x.number t
is_waited_for (call.Drain q) t x = x.place.queue.0 == q.0
is_waited_for (call.Destroy q) t x = x.place.queue.0 == q.0
is_waited_for c t x = false

abbrev pub has_ended : List Entry → Queueing → Bool
has_ended past x = is_finished past x.number || is_cancelled past x.item.0 x.number

abbrev pub WaitsEndAfter : List Entry → Type 0
WaitsEndAfter = OfEachEntry (λ past e. (t : ℕ) (begun : Entry) → IsDone e t → entry_at past t ≡ Some begun
    → AllByRecursion (λ x. is_waited_for begun.call t x ≡ true → has_ended past x ≡ true) (queueings past))

abbrev pub FlushesEndAfterAllBefore : Type 0
FlushesEndAfterAllBefore = OfLegal (λ s. WaitsEndAfter)

-- ---- where the end of a cancel_sync is answered done, the item is neither pending nor running after that

abbrev pub CancelsSettle : List Entry → Type 0
CancelsSettle =
    OfEachEntry (λ past e. (t i : ℕ) (begun : Entry) → IsDone e t → entry_at past t ≡ Some begun
    → begun.call ≡ call.CancelSync (record { 0 = i })
    → (is_pending (e ∷ past) i ≡ false) × (item_runs (e ∷ past) i ≡ false))

abbrev pub CancelSyncsSettle : Type 0
CancelSyncsSettle = OfLegal (λ s. CancelsSettle)

-- ---- while a cancel_sync of an item is unended the item is not pending

abbrev pub CancelledStayIdle : Type 0
CancelledStayIdle = OfLegal (λ s past. (i : ℕ) → is_cancelling past i ≡ true → is_pending past i ≡ false)
