-- Callers and workers before the first move.
use Rattle.std.specs.Prelude.{◌+◌, ℕ, Bool, true, false, List, ◌++◌, map, None, min}
use Rattle.std.specs.List.{range_with_len, flat_map}
use Rattle.cmwq_model.specs.declared.id.PoolId.{PoolId}
use Rattle.cmwq_play.specs.declared.place.CallerAt.{CallerAt}
use Rattle.cmwq_play.specs.declared.place.WorkerAt.{WorkerAt}

-- the caller of this number, before its first call; there are no numbers above 255
abbrev pub caller_at : ℕ → CallerAt
caller_at k = record { id = record { 0 = min k 255 }; next = 0; wait = None }

abbrev pub callers_from : ℕ → List CallerAt
callers_from count = map caller_at (range_with_len 0 count)

-- an idle worker
abbrev pub worker_at : PoolId → ℕ → WorkerAt
worker_at pool index = record { id = record { pool = pool; index = index }; run = None }

abbrev pub of_pool : ℕ → PoolId → List WorkerAt
of_pool count pool = map (worker_at pool) (range_with_len 0 count)

abbrev pub pool_of : ℕ → Bool → PoolId
pool_of cpu high = record { cpu = record { 0 = cpu }; high = high }

-- the workers of the normal pool of a CPU, and those of its pool of high priority
abbrev pub of_cpu : ℕ → ℕ → List WorkerAt
of_cpu count cpu = of_pool count (pool_of cpu false) ++ of_pool count (pool_of cpu true)

abbrev pub workers_from : ℕ → ℕ → List WorkerAt
workers_from cpus count = flat_map (of_cpu count) (range_with_len 0 cpus)

-- the callers that are lent come after those of the script
abbrev pub lent_from : ℕ → ℕ → List ℕ
lent_from first count = map (λ k. min (first + k) 255) (range_with_len 0 count)
