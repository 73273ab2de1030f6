use Rattle.cmwq_model.specs.Prelude.{is_gone, past_of}
use Rattle.cmwq_resume.proofs.Pushed.{gone_more}
use Rattle.cmwq_resume.proofs.calls.push_all_gone.Goals as goal

pub loop-queue-preserved : goal.loop-queue-preserved
loop-queue-preserved c =
    gone_more (is_gone (past_of c.args.state.now.entries)) c.loop-queue.queue _ _ _ c.loop-queue.invariant
    c.in_ok-push_gone.ensures
