-- The tables of a book: where each pool, each flush book and each serial stands, and what may be applied to them.
use Rattle.std.specs.Prelude.{◌≡◌, ◌+◌, ◌*◌, ◌<◌, if◌then◌else◌}
use Rattle.cmwq_state.specs.Common.{ℕ, true, List, length, filter, Option, Some, None, slice_index_or, Contains, IsTrue}
use Rattle.cmwq_state.specs.Common.{All, PoolId, Who, Caller, Worker, Reply, Entry, Queueing, QueueShape, Ticket, Call}
use Rattle.cmwq_state.specs.Common.{Layout, most_callers, most_workers, pool_at, serial_of, same_pool, PoolState}
use Rattle.cmwq_state.specs.Common.{pool_without_task, pool_with_task, pool_numbered, lists_item, may_list, FlushBook}
use Rattle.cmwq_state.specs.Common.{flush_tickets, IsReady, pool_after_activation, pool_of, task_for, MayReplyInPool}
use Rattle.cmwq_state.specs.Common.{AreFlushes, numbers_of, is_in}
use Rattle.cmwq_flush.specs.FlushBooks.{CanBegin, CanOpenOn, FlushState, IsOpenOn, book_in}
use Rattle.cmwq_model.specs.declared.call.Call.TheVariants as call

-- the who is inside the layout
abbrev pub IsThere : Layout → Who → Type 0
IsThere s (Caller c) = c.0 < s.callers
IsThere s (Worker w) = (w.pool.cpu.0 < s.cpus) × (w.index < s.workers)

abbrev pub pool_place : PoolId → ℕ
pool_place p = 2 * p.cpu.0 + (if p.high then 1 else 0)

abbrev pub pool_in : List PoolState → PoolId → PoolState
pool_in pools p = pool_numbered pools (pool_place p)

-- the serials of callers stand first, then those of each pool's workers, with room for as many of each as a shape may
-- have
abbrev pub who_place : Who → ℕ
who_place (Caller c) = c.0
who_place (Worker w) = most_callers + most_workers * pool_place w.pool + w.index

abbrev pub who_places : ℕ → ℕ
who_places cpus = most_callers + most_workers * (2 * cpus)

-- each pool is what `after` makes of the one that stood at its place
pub record EachPool (after : PoolId → PoolState → PoolState) (old new : List PoolState) : Type 0 where
  pub many : length new ≡ length old
  pub each : (p : PoolId) → pool_in new p ≡ after p (pool_in old p)

-- one pool lists a queueing of an item no more
abbrev pub pool_without : PoolId → ℕ → ℕ → PoolId → PoolState → PoolState
pool_without at number item p l = if same_pool at p then pool_without_task l number item else l

-- each pool is that of the past
pub record ArePools (s : Layout) (past : List Entry) (pools : List PoolState) : Type 0 where
  pub many : length pools ≡ 2 * s.cpus
  pub each : (p : PoolId) → p.cpu.0 < s.cpus → pool_in pools p ≡ pool_of s past p

-- each flush book is what `after` makes of the one that stood at its place
pub record EachBook (after : ℕ → FlushBook → FlushBook) (old new : FlushState) : Type 0 where
  pub room : new.room ≡ old.room
  pub many : length new.books ≡ length old.books
  pub each : (q : ℕ) → book_in new.books q ≡ after q (book_in old.books q)

-- each queue's flush book is that of the past, and each item's open numbers are
pub record AreBooks (s : Layout) (past : List Entry) (books : FlushState) : Type 0 where
  pub room : books.room ≡ 64 * s.callers
  pub many : length books.books ≡ length s.queues
  pub each : (q : ℕ) → q < length s.queues → AreFlushes s past q (book_in books.books q)
  pub numbers : books.opened ≡ numbers_of s past

pub record AreSerials (s : Layout) (past : List Entry) (serials : List ℕ) : Type 0 where
  pub many : length serials ≡ who_places s.cpus
  pub each : (who : Who) → IsThere s who → slice_index_or serials (who_place who) 0 ≡ serial_of past who

-- what each call of a pool that a reply applies requires
abbrev pub MayReplyToWorker : Who → Reply → List PoolState → Type 0
MayReplyToWorker (Caller c) r pools = Unit {0}
MayReplyToWorker (Worker w) r pools =
    (pool_place w.pool < length pools) × MayReplyInPool r (pool_in pools w.pool) w.index

-- what the calls of flush books require for a queueing that ended, and for one that was opened
abbrev pub MayEndInBooks : Option Queueing → FlushState → Type 0
MayEndInBooks None books = Unit {0}
MayEndInBooks (Some x) books = IsOpenOn books x.place.queue.0 x.item.0 x.number

abbrev pub MayOpenInBooks : Option Queueing → FlushState → Type 0
MayOpenInBooks None books = Unit {0}
MayOpenInBooks (Some x) books = CanOpenOn books x.place.queue.0 x.item.0 x.number × (x.number < 9223372036854775808)

-- for a queueing that ended otherwise than by a finish
abbrev pub MayCancelInPools : Option Queueing → List QueueShape → List PoolState → Type 0
MayCancelInPools None queues pools = Unit {0}
MayCancelInPools (Some x) queues pools = (x.place.queue.0 < length queues) × (2 * x.place.cpu.0 + 1 < length pools)

-- for a flush that ended, and for one that began
abbrev pub MayEndFlush : Call → ℕ → FlushState → Type 0
MayEndFlush (call.Flush q) t books = (q.0 < length books.books) × Contains (flush_tickets (book_in books.books q.0)) t
    × IsReady (book_in books.books q.0) t
MayEndFlush c t books = Unit {0}

abbrev pub MayBeDoneInBooks : Option Ticket → FlushState → Type 0
MayBeDoneInBooks None books = Unit {0}
MayBeDoneInBooks (Some t) books = MayEndFlush t.call t.number books

abbrev pub MayBeginFlush : Call → ℕ → FlushState → Type 0
MayBeginFlush (call.Flush q) t books = (q.0 < length books.books) × CanBegin books q.0 t
MayBeginFlush c t books = Unit {0}

abbrev pub MayBeginInBooks : Option Ticket → FlushState → Type 0
MayBeginInBooks None books = Unit {0}
MayBeginInBooks (Some t) books = MayBeginFlush t.call t.number books

-- for what became active, where of a layout the queues alone are known
abbrev pub only : List QueueShape → Layout
only queues = record { cpus = 0; workers = 0; callers = 0; items = 0; room = 0; queues = queues }

abbrev pub pool_with : List QueueShape → Queueing → PoolId → PoolState → PoolState
pool_with queues x p l = if is_in (only queues) p x then pool_with_task l (task_for (only queues) x) else l

abbrev pub those_in : List QueueShape → PoolId → List Queueing → List Queueing
those_in queues p xs = filter (is_in (only queues) p) xs

abbrev pub IsListable : List QueueShape → List PoolState → Queueing → Type 0
IsListable queues pools x = (x.place.queue.0 < length queues) × (2 * x.place.cpu.0 + 1 < length pools)

pub record MayListOne (queues : List QueueShape) (x : Queueing) (pools : List PoolState) : Type 0 where
  pub there : IsListable queues pools x
  pub may : IsTrue (may_list pools (pool_place (pool_at (only queues) x.place)) x.item.0)

abbrev pub MayBeListed : List QueueShape → List Queueing → List PoolState → Type 0
MayBeListed queues xs pools = All (IsListable queues pools) xs

-- a pool once these are listed, and that no two pools then list one item
abbrev pub pool_listing : List QueueShape → List Queueing → List PoolState → PoolId → PoolState
pool_listing queues xs pools p = pool_after_activation (only queues) (those_in queues p xs) (pool_in pools p)

abbrev pub ListEachItemOnce : List QueueShape → List Queueing → List PoolState → Type 0
ListEachItemOnce queues xs pools = (p q : PoolId) (i : ℕ) → lists_item i (pool_listing queues xs pools p) ≡ true
    → lists_item i (pool_listing queues xs pools q) ≡ true → p ≡ q
