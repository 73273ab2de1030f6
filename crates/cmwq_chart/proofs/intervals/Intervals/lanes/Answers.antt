use Rattle.std.proofs.Common.{◌∙◌, ap}
use Rattle.cmwq_chart.specs.Intervals.{lanes_in}
use Rattle.cmwq_chart.proofs.Kept.{lanes_are}
use Rattle.cmwq_chart.proofs.intervals.Intervals.lanes.Goals as goal

pub returns : goal.returns
returns c = λ s past kept.
    c.in_ok-lanes.ensures ∙ ap lanes_in c.deref.ensures.value
    ∙ lanes_are s past c.args.self.now.workers.items kept.workers_are
