-- What keeps a queueing is why it does not start: with no obstacle it would start now, and with one nobody starts it.
-- If another is in its way, that one would start now. If a worker is lacking, its pool starts nothing.
use Rattle.std.specs.Prelude.{◌≡◌, ◌<◌, ℕ, Bool, true, false, List, Some, None}
use Rattle.std.specs.List.{list_any}
use Rattle.cmwq_model.specs.Prelude.{IsLegal, Layout, answer, indices, is_at, is_idle, number_started, pool_at}
use Rattle.cmwq_model.specs.Prelude.{unstarted_queueing, worker_at}
use Rattle.cmwq_model.specs.declared.call.Call.TheVariants as call
use Rattle.cmwq_model.specs.declared.entry.Entry.{Entry}
use Rattle.cmwq_model.specs.declared.id.PoolId.{PoolId}
use Rattle.cmwq_model.specs.declared.id.Who.TheVariants.{Worker}
use Rattle.cmwq_model.specs.declared.id.WorkerId.{WorkerId}
use Rattle.cmwq_model.specs.declared.record.Queueing.{Queueing}
use Rattle.cmwq_obstacle.specs.Obstacles.{obstacle}
use Rattle.cmwq_obstacle.specs.declared.obstacle.Obstacle.{Obstacle}
use Rattle.cmwq_obstacle.specs.declared.obstacle.Obstacle.TheVariants as obstacles

-- a take of this worker would start this queueing now
abbrev pub would_start_it : Layout → List Entry → WorkerId → Queueing → Bool
would_start_it s past w x = is_at (number_started (answer s past (Worker w) call.Take)) x.number

-- A worker of its pool is idle, and whichever idle worker of the pool takes next starts it.
pub record StartsNow (s : Layout) (past : List Entry) (x : Queueing) : Type 0 where
  pub one_is_idle : list_any (is_idle past (pool_at s x.place)) (indices s) ≡ true
  pub each_would : (k : ℕ) → is_idle past (pool_at s x.place) k ≡ true
      → would_start_it s past (worker_at (pool_at s x.place) k) x ≡ true

-- it is what its item has queued, and has not started
abbrev pub IsUnstarted : List Entry → Queueing → Type 0
IsUnstarted past x = unstarted_queueing past x.item.0 ≡ Some x

abbrev pub NothingKeepsWhatStarts : Type 0
NothingKeepsWhatStarts = (s : Layout) (past : List Entry) (x : Queueing) → IsLegal s past → IsUnstarted past x
    → obstacle s past x ≡ None → StartsNow s past x

-- No worker of the layout would start it.
abbrev pub WhatIsKeptDoesNotStart : Type 0
WhatIsKeptDoesNotStart = (s : Layout) (past : List Entry) (x : Queueing) (o : Obstacle) → IsLegal s past
    → IsUnstarted past x → obstacle s past x ≡ Some o → (p : PoolId) (k : ℕ) → k < s.workers
    → would_start_it s past (worker_at p k) x ≡ false

-- ---- what is so of an obstacle

-- Another one is in its way: that is of its pool, its item has queued it, and it starts now.
pub record StartsFirst (s : Layout) (past : List Entry) (x y : Queueing) : Type 0 where
  pub same_pool : pool_at s y.place ≡ pool_at s x.place
  pub unstarted : IsUnstarted past y
  pub starts_now : StartsNow s past y

abbrev pub WhatIsAheadStarts : Type 0
WhatIsAheadStarts = (s : Layout) (past : List Entry) (x y : Queueing) → IsLegal s past
    → obstacle s past x ≡ Some (obstacles.Behind y) → StartsFirst s past x y

-- a run holds the pool, or no enlisted worker is idle
abbrev pub lacks_worker : Obstacle → Bool
lacks_worker (obstacles.Held w) = true
lacks_worker obstacles.NoWorker = true
lacks_worker o = false

-- then no worker of the pool would start anything
abbrev pub LackingStartNothing : Type 0
LackingStartNothing = (s : Layout) (past : List Entry) (x : Queueing) (o : Obstacle) → obstacle s past x ≡ Some o
    → lacks_worker o ≡ true → (k : ℕ) → k < s.workers
    → number_started (answer s past (Worker (worker_at (pool_at s x.place) k)) call.Take) ≡ None
