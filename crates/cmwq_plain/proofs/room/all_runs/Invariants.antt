use Rattle.cmwq_plain.specs.Common.{◌≡◌, ◌*◌, ◌≤◌, cpu_workers, flat_map, range_with_len}
use Rattle.cmwq_plain.specs.Partial.{owed_by_runs}
use Rattle.cmwq_plain.proofs.room.all_runs.Given as goal

abbrev pub invariant-loop-cpu : goal.invariant-loop-cpu
invariant-loop-cpu l = (l.count ≡ owed_by_runs l.past (flat_map (cpu_workers l.shape) (range_with_len 0 l.cpu)))
    × (l.count ≤ 1024 * l.cpu)
