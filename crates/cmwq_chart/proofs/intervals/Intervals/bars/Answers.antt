use Rattle.std.proofs.Common.{map, sym, ap, ap₂, ◌∙◌}
use Rattle.cmwq_chart.specs.Bars.{ended_bar}
use Rattle.cmwq_chart.proofs.BarSteps.{bars_ended}
use Rattle.cmwq_chart.proofs.intervals.Intervals.bars.Goals as goal

pub returns : goal.returns
returns c = λ s past kept.
    c.in_ok-bars.ensures ∙ ap₂ (λ table bars. map (ended_bar table) bars) c.deref-2.ensures.value c.deref.ensures.value
    ∙ ap (map (ended_bar c.args.self.now.finishes.items)) kept.bars
    ∙ sym (bars_ended past c.args.self.now.finishes.items kept.finishes)
