use Rattle.cmwq_model.specs.Prelude.{most_cpus}
use Rattle.std.proofs.Common.{◌*◌, length}
use Rattle.cmwq_summary.specs.Peaks.{open_count_at, most_open_at, most_active_at}
use Rattle.cmwq_summary.proofs.Greatest.{none_measured, none_open, none_most_open, none_most_active}
use Rattle.cmwq_summary.proofs.peaks.Peaks.new.Goals as goal

pub returns : goal.returns
returns c s many = record {
  open_ones = rw (c.in_ok-open.ensures, ← many) (none_measured open_count_at (most_cpus * length s.queues) none_open);
  most_open =
      rw (c.in_ok-most_open.ensures, ← many) (none_measured most_open_at (most_cpus * length s.queues) none_most_open);
  most_active =
      rw (c.in_ok-most_active.ensures, ← many)
      (none_measured (most_active_at s) (most_cpus * length s.queues) (none_most_active s));
}
