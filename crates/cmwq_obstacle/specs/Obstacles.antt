-- Why what is queued has not started.
use Rattle.std.specs.Prelude.{◌==◌, ℕ, Bool, List, find, Option, Some, None, if◌then◌else◌}
use Rattle.std.specs.Prelude.{◌&&◌, false, option_and_then}
use Rattle.std.specs.List.{list_any, range_with_len}
use Rattle.std.specs.Option.{option_map_or}
use Rattle.cmwq_model.specs.Prelude.{Layout, indices, is_active, is_holding, is_idle, item_runs}
use Rattle.cmwq_model.specs.Prelude.{next, pool_at, unstarted_queueing, width}
use Rattle.cmwq_model.specs.Active.{same_place}
use Rattle.cmwq_model.specs.declared.entry.Entry.{Entry}
use Rattle.cmwq_model.specs.declared.id.PoolId.{PoolId}
use Rattle.cmwq_model.specs.declared.id.Who.TheVariants.{Worker}
use Rattle.cmwq_model.specs.declared.record.Place.{Place}
use Rattle.cmwq_model.specs.declared.record.Queueing.{Queueing}
use Rattle.cmwq_theory_steps.specs.ItemQueueings.{queueing_run}
use Rattle.cmwq_state.specs.Pwqs.{active_on}
use Rattle.cmwq_obstacle.specs.declared.obstacle.Obstacle.{Obstacle}
use Rattle.cmwq_obstacle.specs.declared.obstacle.Obstacle.TheVariants as obstacles

-- ---- what is active on a queue and CPU: it runs in the pool of these, or has not started

abbrev pub run_at : List Entry → PoolId → ℕ → Option Queueing
run_at past p k = queueing_run past (Worker (record { pool = p; index = k }))

abbrev pub runs_there : List Entry → Place → PoolId → ℕ → Bool
runs_there past place p k = option_map_or (λ (y : Queueing). same_place place y.place) (run_at past p k) false

abbrev pub is_listed_there : Layout → List Entry → Place → ℕ → Bool
is_listed_there s past place i =
    option_map_or (λ (y : Queueing). same_place place y.place && is_active s past y) (unstarted_queueing past i) false

-- the run of the worker with the least index; or if none runs there, what the item with the least number has queued
abbrev pub first_active : Layout → List Entry → Place → PoolId → Option Queueing
first_active s past place p =
    option_map_or (run_at past p)
    (find (runs_there past place p) (indices s))
    (option_and_then (unstarted_queueing past)
    (find (is_listed_there s past place) (range_with_len 0 s.items)))

-- ---- obstacles

-- what is not active: its queue has no width, as it is frozen, or no place left on the CPU
abbrev pub of_inactive : Layout → List Entry → Queueing → Obstacle
of_inactive s past x =
    if width s past x.place.queue.0 == 0 then obstacles.Frozen
    else obstacles.NoPlace (first_active s past x.place (pool_at s x.place))
    (active_on s past x.place.queue.0 x.place.cpu.0)

-- another queueing of the pool is the next to start, or none is in the way
abbrev pub behind_other : Queueing → Queueing → Option Obstacle
behind_other x y = if y.number == x.number then None else Some (obstacles.Behind y)

-- Of a pool: the first worker whose run holds it; or no enlisted worker is idle; or another queueing is the next.
abbrev pub of_pool : Layout → List Entry → Queueing → PoolId → Option Obstacle
of_pool s past x p =
    option_map_or (λ k. Some (obstacles.Held (record { pool = p; index = k })))
    (find (is_holding s past p) (indices s))
    (if list_any (is_idle past p) (indices s) then option_and_then (behind_other x) (next s past p)
    else Some obstacles.NoWorker)

-- what is active: its item runs, or its pool is the obstacle
abbrev pub of_active : Layout → List Entry → Queueing → Option Obstacle
of_active s past x =
    if item_runs past x.item.0 then Some obstacles.ItemRuns else of_pool s past x (pool_at s x.place)

-- why this open queueing has not started
abbrev pub obstacle : Layout → List Entry → Queueing → Option Obstacle
obstacle s past x = if is_active s past x then of_active s past x else Some (of_inactive s past x)

-- and that of an item
abbrev pub obstacle_of : Layout → List Entry → ℕ → Option Obstacle
obstacle_of s past i = option_and_then (obstacle s past) (unstarted_queueing past i)

-- ---- which queueing alone keeps it: the only one that is active on its queue and CPU, or what its pool's only worker
-- ---- runs

abbrev pub keeper : Layout → List Entry → Queueing → Option Obstacle → Option Queueing
keeper s past x None = None
keeper s past x (Some (obstacles.NoPlace first active)) = if active == 1 then first else None
keeper s past x (Some obstacles.NoWorker) = if s.workers == 1 then run_at past (pool_at s x.place) 0 else None
keeper s past x (Some o) = None

abbrev pub keeper_of : Layout → List Entry → ℕ → Option Queueing
keeper_of s past i =
    option_and_then (λ x. keeper s past x (obstacle s past x)) (unstarted_queueing past i)
