use Rattle.cmwq_resume.specs.Common.{◌≡◌, ◌++◌, filter, is_gone, length, range_with_len}
use Rattle.cmwq_model.specs.Prelude.{past_of}
use Rattle.cmwq_resume.specs.Resume.{gone_calls}
use Rattle.cmwq_resume.proofs.calls.push_all_gone.Given as goal

abbrev pub invariant-loop-queue : goal.invariant-loop-queue
invariant-loop-queue l = (l.calls).items
    ≡ (l.initial.calls).items
    ++ gone_calls (length (l.initial.calls).items)
    (filter (is_gone (past_of l.state.entries)) (range_with_len 0 l.queue))
