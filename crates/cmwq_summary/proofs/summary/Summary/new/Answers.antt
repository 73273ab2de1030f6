use Rattle.std.proofs.Common.{refl, sym, arith}
use Rattle.cmwq_model.specs.Prelude.{now}
use Rattle.cmwq_summary.proofs.Activities.{idle_all}
use Rattle.cmwq_summary.proofs.Counting.{none_counted}
use Rattle.cmwq_summary.proofs.summary.Summary.new.Goals as goal

pub invariant_of-result : goal.invariant_of-result
unfolding now
invariant_of-result c = rw c.new-entries.ensures record {
  time_is = refl;
  soon = omega arith;
  counters_are = rw (c.in_ok-counters.ensures) (none_counted c.args.shape);
  ticket_waits_are = c.in_ok-ticket_waits.ensures;
  start_waits_are = c.in_ok-start_waits.ensures;
  activities_are =
      rw (c.in_ok-activities.ensures.items_if_clones_equal (λ y same. same), c.keys.ensures)
      (idle_all c.args.shape.cpus);
  peaks_are = c.in_ok-peaks.ensures c.args.shape (sym c.keys-2.ensures);
}
