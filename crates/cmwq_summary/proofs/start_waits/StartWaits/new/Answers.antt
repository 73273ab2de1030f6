use Rattle.cmwq_model.specs.Prelude.{most_cpus}
use Rattle.std.proofs.Common.{◌*◌, length}
use Rattle.cmwq_summary.specs.declared.counter.Counter.TheVariants.{Starts}
use Rattle.cmwq_summary.specs.Figures.{key_of}
use Rattle.cmwq_summary.specs.Openings.{start_wait}
use Rattle.cmwq_summary.proofs.StartTimes.{none_opened}
use Rattle.cmwq_summary.proofs.WaitTables.{none_waited}
use Rattle.cmwq_summary.proofs.start_waits.StartWaits.new.Goals as goal

pub returns : goal.returns
returns c = record {
  waits = rw (c.in_ok-waits.ensures, c.keys.ensures)
      (none_waited (key_of Starts) start_wait (most_cpus * length c.args.shape.now.queues));
  openings = rw (c.in_ok-openings.ensures, c.keys-2.ensures) (none_opened c.args.shape.now.items);
}
