use Rattle.cmwq_plain.specs.Common.{◌≡◌, ◌*◌, ◌≤◌, map, worker_at, range_with_len}
use Rattle.cmwq_plain.specs.Partial.{owed_by_runs}
use Rattle.cmwq_plain.proofs.room.pool_runs.Given as goal

abbrev pub invariant-loop-index : goal.invariant-loop-index
invariant-loop-index l = (l.count ≡ owed_by_runs l.past (map (worker_at l.pool) (range_with_len 0 l.index)))
    × (l.count ≤ 2 * l.index)
