-- A pool refines its worklist, and the runs and the enlisting of its workers.
use Rattle.std.specs.Prelude.{◌≡◌, ◌<◌, ◌&&◌, if◌then◌else◌, ◌∷◌}
use Rattle.cmwq_refinement.specs.Common.{ℕ, true, not, List, [], length, map, filter, fold, Option, Some, None}
use Rattle.cmwq_refinement.specs.Common.{option_map, option_and_then, IsTrue, IsSome, PoolId, WorkerId, Who, Caller}
use Rattle.cmwq_refinement.specs.Common.{Worker, Reply, Entry, Queueing, Layout, indices, is_intensive, same_pool}
use Rattle.cmwq_refinement.specs.Common.{finishes, run, is_asleep, queueing_at, newly_active, worklist, next, worker_at}
use Rattle.cmwq_refinement.specs.Common.{is_enlisted, runnable, enlisted_by, is_idle, may_retire, IsLegal, ending}
use Rattle.cmwq_refinement.specs.Common.{is_in, Task, Slot, slot_at, run_number, slot_asleep, slot_awake, slot_free}
use Rattle.cmwq_refinement.specs.Common.{slot_retired, PoolState, new_pool_state, may_add, pool_with_task}
use Rattle.cmwq_refinement.specs.Common.{pool_without_task, next_task, with_slot_again}
use Rattle.cmwq_model.specs.declared.reply.Reply.TheVariants as reply
use Rattle.cmwq_pool.specs.Slots.{slot_is_idle as is_idle_slot, slots_runnable, slots_enlisted_by, slot_may_retire}
use Rattle.cmwq_pool.specs.Slots.{slot_runs_awake, slot_runs_asleep}
use Rattle.cmwq_pool.specs.PoolState.{pool_with_run, next_number as pool_state_next}
use Rattle.cmwq_pool.specs.Pools.{lists_item}
use Rattle.cmwq_refinement.specs.ByNumber.{number_of_queueing}

-- a queueing as its pool sees it, and what a worker runs
abbrev pub task_for : Layout → Queueing → Task
task_for s x = record { number = x.number; item = x.item; intensive = is_intensive s x.place.queue.0 }

abbrev pub run_task : Layout → List Entry → WorkerId → Option Task
run_task s past w = option_map (task_for s) (option_and_then (queueing_at past) (run past w))

-- the pool of a history: its worklist in order, and a slot for each worker
abbrev pub slot_of : Layout → List Entry → PoolId → ℕ → Slot
slot_of s past p x =
    record {
      enlisted = is_enlisted past (worker_at p x);
      run = run_task s past (worker_at p x);
      asleep =
          is_asleep past (worker_at p x);
    }

abbrev pub pool_of : Layout → List Entry → PoolId → PoolState
pool_of s past p =
    record {
      items = s.items;
      listed = map (task_for s) (worklist s past p);
      slots =
          map (slot_of s past p) (indices s);
    }

-- the pool after a reply to its worker with this index: it started the next, finished, slept, woke or retired
abbrev pub start_next : ℕ → Option Task → PoolState → PoolState
start_next x None l = l
start_next x (Some t) l = pool_with_run l x t

abbrev pub pool_after_reply : Reply → ℕ → PoolState → PoolState
pool_after_reply (reply.Started n) x l = start_next x (next_task l) l
pool_after_reply (reply.StartedEnlist n y) x l = start_next x (next_task l) l
pool_after_reply (reply.Finished n) x l = with_slot_again slot_free l x
pool_after_reply reply.Slept x l = with_slot_again slot_asleep l x
pool_after_reply reply.Woke x l = with_slot_again slot_awake l x
pool_after_reply reply.Retired x l = with_slot_again slot_retired l x
pool_after_reply r x l = l

abbrev pub pool_after_worker : PoolId → Who → Reply → PoolState → PoolState
pool_after_worker p (Caller c) r l = l
pool_after_worker p (Worker w) r l = if same_pool w.pool p then pool_after_reply r w.index l else l

-- after a queueing of its own was cancelled or replaced, and after some became active, in their order
abbrev pub pool_after_cancel : Layout → PoolId → Entry → Option Queueing → PoolState → PoolState
pool_after_cancel s p e None l = l
pool_after_cancel s p e (Some x) l = if is_in s p x && not (finishes x.number e)
    then pool_without_task l x.number x.item.0 else l

abbrev pub pool_after_activation : Layout → List Queueing → PoolState → PoolState
pool_after_activation s xs l = fold (λ (m : PoolState) (x : Queueing). pool_with_task m (task_for s x)) l xs

abbrev pub pool_before_activation : Layout → List Entry → PoolId → Entry → PoolState → PoolState
pool_before_activation s past p e l = pool_after_cancel s p e (ending past e) (pool_after_worker p e.who e.reply l)

abbrev pub made_active : Layout → List Entry → PoolId → Entry → List Queueing
made_active s past p e = filter (is_in s p) (newly_active s past e)

abbrev pub pool_after : Layout → List Entry → PoolId → Entry → PoolState → PoolState
pool_after s past p e l = pool_after_activation s (made_active s past p e) (pool_before_activation s past p e l)

-- at first the pool is a new one, and each entry's calls make it that of the longer history
abbrev pub PoolsAtFirst : Type 0
PoolsAtFirst = (s : Layout) (p : PoolId) → pool_of s [] p ≡ new_pool_state s.items s.workers

abbrev pub PoolsRefine : Type 0
PoolsRefine = (s : Layout) (past : List Entry) (e : Entry) (p : PoolId) → IsLegal s (e ∷ past)
    → pool_of s (e ∷ past) p ≡ pool_after s past p e (pool_of s past p)

-- what the pool answers is what the definitions say: the next to start, how many runs hold it, whom a start enlists,
-- who may retire
abbrev pub NextsAreNext : Type 0
NextsAreNext = (s : Layout) (past : List Entry) (p : PoolId) → IsLegal s past → pool_state_next (pool_of s past p)
    ≡ option_map number_of_queueing (next s past p)

abbrev pub RunnablesAreRunnable : Type 0
RunnablesAreRunnable = (s : Layout) (past : List Entry) (p : PoolId) → IsLegal s past
    → slots_runnable (pool_of s past p).slots ≡ runnable s past p

abbrev pub StartsEnlistAlike : Type 0
StartsEnlistAlike = (s : Layout) (past : List Entry) (w : WorkerId) → IsLegal s past
    → slots_enlisted_by (pool_of s past w.pool).slots w.index ≡ enlisted_by s past w

abbrev pub IdleRetireAlike : Type 0
IdleRetireAlike = (s : Layout) (past : List Entry) (p : PoolId) (x : ℕ) → IsLegal s past → x < s.workers
    → slot_may_retire (pool_of s past p).slots x ≡ (is_idle past p x && may_retire s past p)

-- and each worker's slot: whether it is enlisted, the number of its run, and whether that sleeps
pub record IsSlotOf (past : List Entry) (w : WorkerId) (slot : Slot) : Type 0 where
  pub enlisted : slot.enlisted ≡ is_enlisted past w
  pub run : run_number slot ≡ run past w
  pub asleep : slot.asleep ≡ is_asleep past w

abbrev pub SlotsAreWorkers : Type 0
SlotsAreWorkers = (s : Layout) (past : List Entry) (p : PoolId) (x : ℕ) → IsLegal s past → x < s.workers
    → IsSlotOf past (worker_at p x) (slot_at (pool_of s past p).slots x)

-- there is a slot for each worker, so that the pool may be asked for it
abbrev pub SlotsForWorkers : Type 0
SlotsForWorkers = (s : Layout) (past : List Entry) (p : PoolId) → length (pool_of s past p).slots ≡ s.workers

-- what a pool's worker is answered in a legal history may be applied to the pool: what each of these calls requires
-- holds before it
pub record MayStartInPool (l : PoolState) (x : ℕ) : Type 0 where
  pub idle : IsTrue (is_idle_slot (slot_at l.slots x))
  pub next : IsSome (pool_state_next l)
  pub free : slots_runnable l.slots ≡ 0

abbrev pub MayReplyInPool : Reply → PoolState → ℕ → Type 0
MayReplyInPool (reply.Started n) l x = MayStartInPool l x
MayReplyInPool (reply.StartedEnlist n y) l x = MayStartInPool l x
MayReplyInPool (reply.Finished n) l x = IsTrue (slot_runs_awake (slot_at l.slots x))
MayReplyInPool reply.Slept l x = IsTrue (slot_runs_awake (slot_at l.slots x))
MayReplyInPool reply.Woke l x = IsTrue (slot_runs_asleep (slot_at l.slots x))
MayReplyInPool reply.Retired l x = IsTrue (slot_may_retire l.slots x)
MayReplyInPool r l x = Unit {0}

abbrev pub RepliesApplyToPools : Type 0
RepliesApplyToPools = (s : Layout) (past : List Entry) (e : Entry) (w : WorkerId) → IsLegal s (e ∷ past)
    → e.who ≡ Worker w → MayReplyInPool e.reply (pool_of s past w.pool) w.index

-- each queueing that became active may be added to its pool, after those that are added before it
abbrev pub MayAllBeAdded : Layout → List Queueing → PoolState → Type 0
MayAllBeAdded s [] l = Unit {0}
MayAllBeAdded s (x ∷ xs) l = IsTrue (may_add l x.item.0) × MayAllBeAdded s xs (pool_with_task l (task_for s x))

abbrev pub ActiveMayBeAdded : Type 0
ActiveMayBeAdded = (s : Layout) (past : List Entry) (e : Entry) (p : PoolId) → IsLegal s (e ∷ past)
    → MayAllBeAdded s (made_active s past p e) (pool_before_activation s past p e (pool_of s past p))

-- no two pools list one item
abbrev pub ItemsAreListedOnce : Type 0
ItemsAreListedOnce = (s : Layout) (past : List Entry) (p q : PoolId) (i : ℕ) → IsLegal s past
    → lists_item i (pool_of s past p) ≡ true → lists_item i (pool_of s past q) ≡ true → p ≡ q
