-- The workers of all pools that rest, by the numbers of the pools.
use Rattle.std.specs.Prelude.{◌⊎◌, true, false, ◌≡◌, ◌+◌, ◌*◌, ◌<◌, if◌then◌else◌, ℕ, Bool, List, length, slice_get}
use Rattle.std.specs.Prelude.{Some}
use Rattle.std.specs.Option.{option_map_or}
use Rattle.cmwq_model.specs.Prelude.{Layout}
use Rattle.cmwq_model.specs.declared.entry.Entry.{Entry}
use Rattle.cmwq_model.specs.declared.id.PoolId.{PoolId}
use Rattle.cmwq_model.specs.declared.id.WorkerId.{WorkerId}
use Rattle.cmwq_model.specs.declared.id.Who.TheVariants.{Worker}
use Rattle.cmwq_dispatch.specs.Naming.{names_worker, NamesMore}
use Rattle.cmwq_theory_wakes.specs.Starting.{IsAttended}
use Rattle.cmwq_dispatch.specs.Resting.{IsEmpty, IsRecorded, IsUp, rests_in}
use Rattle.cmwq_dispatch.specs.declared.resting.RestingWorkers.{RestingWorkers}
use Rattle.cmwq_dispatch.specs.declared.wakes.Wakes.{Wakes}

abbrev pub pool_number : PoolId → ℕ
pool_number p = 2 * p.cpu.0 + (if p.high then 1 else 0)

-- A worker rests if the workers of its pool say so.
abbrev pub rests : List RestingWorkers → WorkerId → Bool
rests pools w = option_map_or (λ (z : RestingWorkers). rests_in z w.index) (slice_get pools (pool_number w.pool)) false

abbrev pub AllEmpty : List RestingWorkers → Type 0
AllEmpty pools = (k : ℕ) (z : RestingWorkers) → slice_get pools k ≡ Some z → IsEmpty z

-- What is recorded of each pool is true.
abbrev pub AllRecorded : List Entry → List RestingWorkers → Type 0
AllRecorded past pools =
    (p : PoolId) (z : RestingWorkers) → slice_get pools (pool_number p) ≡ Some z → IsRecorded past p z

abbrev pub IsAttendedAt : Layout → List Entry → List RestingWorkers → PoolId → Type 0
IsAttendedAt s past pools p = IsAttended s past (rests pools) p

abbrev pub FirstAttended : Layout → List Entry → ℕ → List RestingWorkers → Type 0
FirstAttended s past n pools = (p : PoolId) → pool_number p < n → IsAttendedAt s past pools p

-- Whoever made the entry neither rests nor was named.
abbrev pub OwnIsUp : Entry → List RestingWorkers → Type 0
OwnIsUp e pools = (w : WorkerId) (z : RestingWorkers) → e.who ≡ Worker w
    → slice_get pools (pool_number w.pool) ≡ Some z → IsUp z w.index

-- All other pools are as they were.
pub record OthersSame (p : PoolId) (old new : List RestingWorkers) : Type 0 where
  pub count : length new ≡ length old
  pub others : (q : PoolId) → (pool_number q ≡ pool_number p → ⊥)
      → slice_get new (pool_number q) ≡ slice_get old (pool_number q)

-- The same workers rest.
pub record RestSame (old new : List RestingWorkers) : Type 0 where
  pub count : length new ≡ length old
  pub rest : (w : WorkerId) → rests new w ≡ rests old w

-- Whoever rested rests on, or is named. Nobody else rests.
pub record LeavesNamed (old new : List RestingWorkers) (before after : Wakes) : Type 0 where
  pub count : length new ≡ length old
  pub left : (w : WorkerId) → rests old w ≡ true → (rests new w ≡ true) ⊎ (names_worker after w ≡ true)
  pub fewer : (w : WorkerId) → rests new w ≡ true → rests old w ≡ true
  pub more : NamesMore before after
