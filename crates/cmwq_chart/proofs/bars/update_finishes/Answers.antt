use Rattle.std.proofs.Common.{sym}
use Rattle.cmwq_model.specs.Prelude.{past_of}
use Rattle.cmwq_chart.proofs.BarSteps.{finishes_more}
use Rattle.cmwq_chart.proofs.Steps.{length_past}
use Rattle.cmwq_chart.proofs.bars.update_finishes.Goals as goal

pub returns : goal.returns
returns c =
    rw c.in_ok-push.ensures.items
    (finishes_more c.requires.legal.0 (past_of c.args.entries.now) c.args.entry _ _ _ c.requires.legal.1
    (sym (length_past c.args.entries.now)) c.requires.finishes c.keep_finish.ensures)
