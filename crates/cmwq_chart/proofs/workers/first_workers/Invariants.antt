use Rattle.std.proofs.Common.{◌≡◌, All, [], map}
use Rattle.std.specs.Prelude.{flat_map}
use Rattle.std.specs.List.{range_with_len}
use Rattle.cmwq_model.specs.Prelude.{cpu_workers}
use Rattle.cmwq_chart.specs.Intervals.{worker_in, IsWorkerKept}
use Rattle.cmwq_chart.proofs.workers.first_workers.Given as goal

abbrev pub invariant-loop-cpu : goal.invariant-loop-cpu
invariant-loop-cpu l = record {
  owners : map worker_in (l.rows).items ≡ flat_map (cpu_workers l.shape) (range_with_len 0 l.cpu);
  kept : All (IsWorkerKept []) (l.rows).items;
}
