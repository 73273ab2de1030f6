use Rattle.cmwq_resume.specs.Common.{◌≡◌, range_with_len, unstarted_queueing}
use Rattle.cmwq_model.specs.Prelude.{past_of}
use Rattle.cmwq_resume.proofs.Sorted.{found_in}
use Rattle.cmwq_resume.proofs.left.waiting.Given as goal

abbrev pub invariant-loop-item : goal.invariant-loop-item
invariant-loop-item l = l.found.items
    ≡ found_in (unstarted_queueing (past_of l.state.entries)) (range_with_len 0 l.item)
