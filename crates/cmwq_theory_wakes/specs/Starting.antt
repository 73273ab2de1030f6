-- Which entries let an idle worker of a pool start something.
use Rattle.std.specs.Prelude.{◌≡◌, ◌&&◌, ◌∷◌, ◌⊎◌}
use Rattle.cmwq_theory_steps.specs.Common.{Bool, true, false, not, List, Some, nat_lt, is_some, Entry, Queueing, Layout}
use Rattle.cmwq_theory_steps.specs.Common.{PoolId, WorkerId, Worker, Reply, pool_at, is_enlisted, has_run, runnable}
use Rattle.cmwq_theory_steps.specs.Common.{item_runs, opening, next, number_started, number_finished, answer}
use Rattle.cmwq_theory_steps.specs.Histories.{OfEntries, OfLegal}
use Rattle.cmwq_theory_steps.specs.Endings.{ending}
use Rattle.cmwq_model.specs.declared.call.Call.TheVariants as call
use Rattle.cmwq_model.specs.declared.reply.Reply.TheVariants as reply

-- An idle worker is enlisted and has no run.
abbrev pub worker_is_idle : List Entry → WorkerId → Bool
worker_is_idle past w = is_enlisted past w && not (has_run past w)

-- A pool allows a start if it has a next queueing and no run holds it.
abbrev pub allows_start : Layout → List Entry → PoolId → Bool
allows_start s past p = is_some (next s past p) && not (nat_lt 0 (runnable s past p))

abbrev pub would_start : Layout → List Entry → WorkerId → Bool
would_start s past w = worker_is_idle past w && allows_start s past w.pool

-- In any history: a worker's take starts something exactly if the worker is idle and its pool allows a start. So either
-- each idle worker of a pool would start something, or none would.
abbrev pub IdleWorkersStartAlike : Type 0
IdleWorkersStartAlike = (s : Layout) (past : List Entry) (w : WorkerId)
    → is_some (number_started (answer s past (Worker w) call.Take)) ≡ would_start s past w

-- A worker that has a run is enlisted. So it is idle once it has finished.
abbrev pub RunnersAreEnlisted : Type 0
RunnersAreEnlisted = OfLegal (λ s past. (w : WorkerId) → has_run past w ≡ true → is_enlisted past w ≡ true)

-- ---- which entries touch a pool

-- A worker leaves the next queueing of its pool to the others when it starts something, when its run goes to sleep, and
-- when it retires.
abbrev pub leaves_next : Reply → Bool
leaves_next (reply.Started n) = true
leaves_next (reply.StartedEnlist n x) = true
leaves_next reply.Slept = true
leaves_next reply.Retired = true
leaves_next r = false

abbrev pub is_finish : Reply → Bool
is_finish r = is_some (number_finished r)

-- A queue may be wider after a change of max_active and after a thaw.
abbrev pub may_widen : Reply → Bool
may_widen (reply.Width n) = true
may_widen reply.Thawed = true
may_widen r = false

-- An entry touches a pool in four ways. A worker of the pool leaves the next queueing to the others. A queueing in the
-- pool ends, but not by a finish. A queueing opens in the pool, and its item has no run. A queue may get wider.
pub data Touches (s : Layout) (past : List Entry) (e : Entry) (p : PoolId) : Type 0 where
  leaves : (w : WorkerId) → e.who ≡ Worker w → w.pool ≡ p → leaves_next e.reply ≡ true → Touches s past e p
  ends : (x : Queueing) → ending past e ≡ Some x → pool_at s x.place ≡ p → is_finish e.reply ≡ false
      → Touches s past e p
  opens : (x : Queueing) → opening past e ≡ Some x → pool_at s x.place ≡ p → item_runs past x.item.0 ≡ false
      → Touches s past e p
  widens : may_widen e.reply ≡ true → Touches s past e p

-- A worker of the pool finishes its run. This does not touch the pool, because the worker then asks for the next
-- queueing itself.
pub record FinishesIn (e : Entry) (p : PoolId) : Type 0 where
  pub worker : WorkerId
  pub by_worker : e.who ≡ Worker worker
  pub pool : worker.pool ≡ p
  pub finishes : is_finish e.reply ≡ true

-- If a pool allows a start after an entry, and did not before, the entry touches the pool or finishes a run there.
abbrev pub StartsAreAllowedByTouches : Type 0
StartsAreAllowedByTouches = OfEntries (λ s past e. (p : PoolId) → allows_start s past p ≡ false
    → allows_start s (e ∷ past) p ≡ true → Touches s past e p ⊎ FinishesIn e p)

-- ---- which pools are attended

-- A worker rests while its thread sleeps for want of something to start, and has not been told to wake. An attendant of
-- a pool is an idle worker of the pool that does not rest.
pub record Attendant (past : List Entry) (rests : WorkerId → Bool) (p : PoolId) : Type 0 where
  pub worker : WorkerId
  pub pool : worker.pool ≡ p
  pub idle : worker_is_idle past worker ≡ true
  pub does_not_rest : rests worker ≡ false

-- A pool is attended if it has an attendant whenever one of its resting workers would start something.
abbrev pub IsAttended : Layout → List Entry → (WorkerId → Bool) → PoolId → Type 0
IsAttended s past rests p = (w : WorkerId) → w.pool ≡ p → rests w ≡ true → would_start s past w ≡ true
    → Attendant past rests p

-- An attended pool stays attended after an entry that does not touch it, if the entry is not by a resting worker.
abbrev pub PoolsStayAttended : Type 0
PoolsStayAttended = OfEntries (λ s past e. (rests : WorkerId → Bool) (p : PoolId)
    → ((w : WorkerId) → e.who ≡ Worker w → rests w ≡ false) → (Touches s past e p → ⊥) → IsAttended s past rests p
    → IsAttended s (e ∷ past) rests p)
