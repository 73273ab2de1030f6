use Rattle.std.proofs.Common.{◌≡◌, All, [], ◌++◌, map}
use Rattle.std.specs.List.{range_with_len}
use Rattle.cmwq_model.specs.Prelude.{worker_at}
use Rattle.cmwq_chart.specs.Intervals.{worker_in, IsWorkerKept}
use Rattle.cmwq_chart.proofs.workers.push_pool.Given as goal

abbrev pub invariant-loop-index : goal.invariant-loop-index
invariant-loop-index l = record {
  owners : map worker_in (l.rows).items
      ≡ map worker_in (l.initial.rows).items ++ map (worker_at l.pool) (range_with_len 0 l.index);
  kept : All (IsWorkerKept []) (l.rows).items;
}
