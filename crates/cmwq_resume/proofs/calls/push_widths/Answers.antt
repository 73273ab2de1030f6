use Rattle.cmwq_model.specs.Prelude.{max_active, past_of}
use Rattle.cmwq_resume.proofs.Pushed.{widths_more}
use Rattle.cmwq_resume.proofs.calls.push_widths.Goals as goal

pub loop-queue-preserved : goal.loop-queue-preserved
loop-queue-preserved c =
    let s = c.args.state.now.layout in
    widths_more s (max_active s (past_of c.args.state.now.entries)) c.loop-queue.queue _ _ _ c.loop-queue.invariant
    c.in_ok-push_width.ensures
