-- A pool's workers: which are enlisted, which hold the pool, and who comes and goes.
use Rattle.std.specs.Prelude.{ℕ, ◌-◌, ◌*◌, Bool, true, false, ◌&&◌, ◌||◌, not, ◌==◌, if◌then◌else◌, List, [], ◌∷◌, find}
use Rattle.std.specs.Prelude.{count_by, Option, Some, None, nat_lt, nat_le}
use Rattle.std.specs.List.{list_any}
use Rattle.std.specs.Option.{option_map_or}
use Rattle.cmwq_model.specs.declared.id.PoolId.{PoolId}
use Rattle.cmwq_model.specs.declared.id.WorkerId.{WorkerId}
use Rattle.cmwq_model.specs.declared.id.Who.{Who}
use Rattle.cmwq_model.specs.declared.id.Who.TheVariants.{Caller, Worker}
use Rattle.cmwq_model.specs.declared.reply.Reply.{Reply}
use Rattle.cmwq_model.specs.declared.reply.Reply.TheVariants as reply
use Rattle.cmwq_model.specs.declared.entry.Entry.{Entry}
use Rattle.cmwq_model.specs.Layout.{Layout, indices, is_intensive}
use Rattle.cmwq_model.specs.Calls.{is_at, is_by, same_pool}
use Rattle.cmwq_model.specs.Runs.{has_run, runs_awake}
use Rattle.cmwq_model.specs.Queueings.{run_queue}

abbrev pub worker_at : PoolId → ℕ → WorkerId
worker_at p x = record { pool = p; index = x }

-- worker 0 is enlisted at first; a start may enlist one of its pool, and a worker that retires is no more
abbrev pub index_enlisted : Reply → Option ℕ
index_enlisted (reply.StartedEnlist n x) = Some x
index_enlisted r = None

abbrev pub is_in_pool : PoolId → Who → Bool
is_in_pool p (Caller c) = false
is_in_pool p (Worker w) = same_pool w.pool p

abbrev pub enlists : Entry → WorkerId → Bool
enlists e w = is_in_pool w.pool e.who && is_at (index_enlisted e.reply) w.index

abbrev pub is_retired : Reply → Bool
is_retired reply.Retired = true
is_retired r = false

unfoldable pub is_enlisted : List Entry → WorkerId → Bool
is_enlisted [] w = w.index == 0
is_enlisted (e ∷ past) w = enlists e w || (not (is_by (Worker w) e && is_retired e.reply) && is_enlisted past w)

-- of the enlisted workers, those with a run and those without, by their index in the pool
abbrev pub is_occupied : List Entry → PoolId → ℕ → Bool
is_occupied past p x = is_enlisted past (worker_at p x) && has_run past (worker_at p x)

abbrev pub is_idle : List Entry → PoolId → ℕ → Bool
is_idle past p x = is_enlisted past (worker_at p x) && not (has_run past (worker_at p x))

abbrev pub is_reserve : List Entry → PoolId → ℕ → Bool
is_reserve past p x = not (is_enlisted past (worker_at p x))

-- the concurrency rule: runs that are awake hold the pool, except those of a CPU-intensive queue
abbrev pub is_holding : Layout → List Entry → PoolId → ℕ → Bool
is_holding s past p x =
    runs_awake past (worker_at p x) && not (option_map_or (is_intensive s) (run_queue past (worker_at p x)) false)

unfoldable pub runnable : Layout → List Entry → PoolId → ℕ
runnable s past p = count_by (is_holding s past p) (indices s)

-- A worker that starts, and leaves no other idle one behind, enlists the reserve worker of the least index, if there is
-- one.
abbrev pub is_other_idle : List Entry → WorkerId → ℕ → Bool
is_other_idle past w x = not (x == w.index) && is_idle past w.pool x

unfoldable pub enlisted_by : Layout → List Entry → WorkerId → Option ℕ
enlisted_by s past w = if list_any (is_other_idle past w) (indices s) then None
    else find (is_reserve past w.pool) (indices s)

-- An idle worker may retire while more than two are idle, and the idle ones past two are a quarter of the occupied ones
-- or more.
abbrev pub has_spare : ℕ → ℕ → Bool
has_spare idle occupied = nat_lt 2 idle && nat_le occupied ((idle - 2) * 4)

unfoldable pub may_retire : Layout → List Entry → PoolId → Bool
may_retire s past p = has_spare (count_by (is_idle past p) (indices s)) (count_by (is_occupied past p) (indices s))
