-- The workers of a pool that rest.
use Rattle.std.specs.Prelude.{◌≡◌, ◌||◌, ◌==◌, ℕ, Bool, true, false, List, Option, Some, None}
use Rattle.cmwq_model.specs.Prelude.{Layout, worker_at, is_enlisted}
use Rattle.cmwq_model.specs.declared.entry.Entry.{Entry}
use Rattle.cmwq_model.specs.declared.id.PoolId.{PoolId}
use Rattle.cmwq_theory_wakes.specs.Starting.{worker_is_idle, would_start}
use Rattle.cmwq_dispatch.specs.Sets.{has}
use Rattle.cmwq_dispatch.specs.declared.resting.RestingWorkers.{RestingWorkers}

-- A worker rests, by its index in the pool.
abbrev pub rests_in : RestingWorkers → ℕ → Bool
rests_in z x = has z.enlisted.bits x || has z.reserve.bits x

abbrev pub is_index : Option ℕ → ℕ → Bool
is_index (Some y) x = y == x
is_index None x = false

-- No worker of the pool rests, and none was named.
pub record IsEmpty (z : RestingWorkers) : Type 0 where
  pub enlisted : (x : ℕ) → has z.enlisted.bits x ≡ false
  pub reserve : (x : ℕ) → has z.reserve.bits x ≡ false
  pub named : z.named ≡ None

-- What is recorded of a pool is true. Of those that rest, some are idle, and the others are of the reserve. The worker
-- that was named, and has not looked yet, is idle and does not rest.
pub record IsRecorded (past : List Entry) (p : PoolId) (z : RestingWorkers) : Type 0 where
  pub enlisted : (x : ℕ) → has z.enlisted.bits x ≡ true → worker_is_idle past (worker_at p x) ≡ true
  pub reserve : (x : ℕ) → has z.reserve.bits x ≡ true → is_enlisted past (worker_at p x) ≡ false
  pub named : (x : ℕ) → z.named ≡ Some x → worker_is_idle past (worker_at p x) ≡ true
  pub looks : (x : ℕ) → z.named ≡ Some x → rests_in z x ≡ false

-- An idle worker of the pool does not rest.
pub record OneAttends (past : List Entry) (p : PoolId) (z : RestingWorkers) : Type 0 where
  pub worker : ℕ
  pub idle : worker_is_idle past (worker_at p worker) ≡ true
  pub does_not_rest : rests_in z worker ≡ false

-- One attends whenever one that rests would start something.
abbrev pub IsAttendedBy : Layout → List Entry → PoolId → RestingWorkers → Type 0
IsAttendedBy s past p z = (x : ℕ) → rests_in z x ≡ true → would_start s past (worker_at p x) ≡ true
    → OneAttends past p z

-- This worker neither rests nor was named.
abbrev pub IsUp : RestingWorkers → ℕ → Type 0
IsUp z x = (rests_in z x ≡ false) × (is_index z.named x ≡ false)

-- A worker may begin to rest: it would start nothing, and it is idle if it is enlisted.
pub record MayRest (s : Layout) (past : List Entry) (p : PoolId) (x : ℕ) (enlisted : Bool) : Type 0 where
  pub idle : enlisted ≡ true → worker_is_idle past (worker_at p x) ≡ true
  pub starts_nothing : would_start s past (worker_at p x) ≡ false
  pub reserve : enlisted ≡ false → is_enlisted past (worker_at p x) ≡ false
