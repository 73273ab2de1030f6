use Rattle.cmwq_resume.specs.Common.{◌≡◌, ◌++◌, max_active, range_with_len}
use Rattle.cmwq_model.specs.Prelude.{past_of}
use Rattle.cmwq_resume.specs.Resume.{widths_calls}
use Rattle.cmwq_resume.proofs.calls.push_widths.Given as goal

abbrev pub invariant-loop-queue : goal.invariant-loop-queue
invariant-loop-queue l = (l.calls).items
    ≡ (l.initial.calls).items
    ++ widths_calls l.state.layout (max_active l.state.layout (past_of l.state.entries)) (range_with_len 0 l.queue)
