-- Which callers and workers of a hub are given out.
use Rattle.std.specs.Prelude.{◌≡◌, ◌+◌, ◌*◌, ◌<◌, ◌≤◌, if◌then◌else◌}
use Rattle.cmwq_rt.specs.Common.{ℕ, zero, suc, Bool, true, false, not, Option, Some, None, nat_lt, MatchOption}
use Rattle.cmwq_rt.specs.Common.{WorkerId, Counts, Layout}
use Rattle.cmwq_model.specs.Prelude.{most_callers, most_cpus, most_workers}

-- the callers are given out by number: so many are; the workers in their order: the next one, if one is left, and how
-- many are
pub record Places : Type 0 where
  pub callers : ℕ
  pub next : Option WorkerId
  pub workers : ℕ

-- by CPU, the normal pool before the one of high priority, then by index
abbrev pub first_worker : WorkerId
first_worker = record { pool = record { cpu = record { 0 = 0 }; high = false }; index = 0 }

abbrev pub after_worker : Layout → WorkerId → Option WorkerId
after_worker s w =
    if nat_lt (w.index + 1) s.workers then Some (record w { index = w.index + 1 })
    else (if not w.pool.high then Some (record { pool = record { cpu = w.pool.cpu; high = true }; index = 0 })
    else (if nat_lt (w.pool.cpu.0 + 1) s.cpus
    then Some (record { pool = record { cpu = record { 0 = w.pool.cpu.0 + 1 }; high = false }; index = 0 })
    else None))

abbrev pub next_after : Layout → Option WorkerId → Option WorkerId
next_after s None = None
next_after s (Some w) = after_worker s w

-- the workers by their numbers in that order
abbrev pub worker_by_number : Layout → ℕ → Option WorkerId
worker_by_number s zero = Some first_worker
worker_by_number s (suc k) = next_after s (worker_by_number s k)

abbrev pub all_free : Places
all_free = record { callers = 0; next = Some first_worker; workers = 0 }

-- the place of a worker among all that there could be: as many to a pool as it may have, and two pools to a CPU
abbrev pub lane : Bool → ℕ
lane false = 0
lane true = most_workers

abbrev pub place : WorkerId → ℕ
place w = 2 * most_workers * w.pool.cpu.0 + lane w.pool.high + w.index

-- how many workers a shape may have in all, and how many shares the ledger of a hub has: one for each caller and each
-- of them
abbrev pub most_workers_in_all : ℕ
most_workers_in_all = 2 * most_workers * most_cpus

abbrev pub shares : ℕ
shares = most_callers + most_workers_in_all

-- the counts are those of the layout, and inside their limits
pub record AreCounts (s : Layout) (n : Counts) : Type 0 where
  pub cpus : n.cpus ≡ s.cpus
  pub workers : n.workers ≡ s.workers
  pub callers : n.callers ≡ s.callers
  pub few_cpus : (0 < s.cpus) × (s.cpus ≤ most_cpus)
  pub few_workers : (0 < s.workers) × (s.workers ≤ most_workers)
  pub few_callers : (0 < s.callers) × (s.callers ≤ most_callers)

-- the next worker is inside the layout, and no more were given out than stand before it, so never more than there may
-- be
abbrev pub IsNextPlace : Layout → Option WorkerId → ℕ → Type 0
IsNextPlace s next given =
    MatchOption next (given ≤ most_workers_in_all) (λ w. (w.pool.cpu.0 < s.cpus) × (w.index < s.workers)
    × (given ≤ place w))
