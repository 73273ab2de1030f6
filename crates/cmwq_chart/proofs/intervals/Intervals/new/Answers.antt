use Rattle.std.proofs.Common.{length, ap, arith}
use Rattle.cmwq_chart.specs.Bars.{bars_in}
use Rattle.cmwq_chart.specs.Signs.{signs_of}
use Rattle.cmwq_chart.proofs.intervals.Intervals.new.Goals as goal

pub returns : goal.returns
unfolding bars_in signs_of
returns c = record {
  shape = c.in_ok-copy.ensures;
  short = omega arith;
  callers = c.in_ok-first_callers.ensures;
  workers_are = c.in_ok-first_workers.ensures;
  bars = c.new.ensures.items;
  finishes = (ap length c.new-2.ensures.items, λ k less. absurd (omega arith));
  signs = c.new-3.ensures.items;
}
