-- Runs, queueings and bookings of one item keep together: on one queue, and in one pool.
use Rattle.std.specs.Prelude.{◌≡◌}
use Rattle.cmwq_theory_steps.specs.Common.{ℕ, true, List, Some, WorkerId, Entry, Booking, Queueing, Start, Layout}
use Rattle.cmwq_theory_steps.specs.Common.{pool_at, booking, run, item_run, is_live, unstarted_queueing, queueing_at}
use Rattle.cmwq_theory_steps.specs.Common.{queue_of, IsLegal}

-- what a worker runs is an open queueing of its pool
pub record IsRunIn (s : Layout) (past : List Entry) (w : WorkerId) (n : ℕ) : Type 0 where
  pub queueing : Queueing
  pub found : queueing_at past n ≡ Some queueing
  pub live : is_live past queueing ≡ true
  pub pool : pool_at s queueing.place ≡ w.pool

abbrev pub RunsAreInPools : Type 0
RunsAreInPools = (s : Layout) (past : List Entry) (w : WorkerId) (n : ℕ) → IsLegal s past → run past w ≡ Some n
    → IsRunIn s past w n

-- an item that runs is queued again in the pool where it runs
abbrev pub QueuedWhereItRuns : Type 0
QueuedWhereItRuns = (s : Layout) (past : List Entry) (i : ℕ) (start : Start) (x : Queueing) → IsLegal s past
    → item_run past i ≡ Some start → unstarted_queueing past i ≡ Some x → pool_at s x.place ≡ start.worker.pool

-- and is booked on the queue of its run
abbrev pub BookedWhereItRuns : Type 0
BookedWhereItRuns = (s : Layout) (past : List Entry) (i : ℕ) (start : Start) (b : Booking) → IsLegal s past
    → item_run past i ≡ Some start → booking past i ≡ Some b → queue_of past start.number ≡ Some b.place.queue.0
