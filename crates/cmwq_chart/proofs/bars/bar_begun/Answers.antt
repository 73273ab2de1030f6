use Rattle.std.proofs.Common.{sym, ◌∙◌}
use Rattle.cmwq_chart.proofs.BarSteps.{no_bar_begun}
use Rattle.cmwq_chart.proofs.bars.bar_begun.Goals as goal

pub returns-in_err-queueing : goal.returns-in_err-queueing
returns-in_err-queueing c =
    c.from_residual.ensures
    ∙ sym (no_bar_begun _ _ _ c.requires.legal.1 (sym c.requires.started ∙ c.in_err-queueing.was))
