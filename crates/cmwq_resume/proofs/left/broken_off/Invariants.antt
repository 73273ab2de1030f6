use Rattle.cmwq_resume.specs.Common.{◌≡◌, range_with_len}
use Rattle.cmwq_model.specs.Prelude.{past_of}
use Rattle.cmwq_resume.specs.Leavings.{broken_off_of, is_again}
use Rattle.cmwq_resume.proofs.Sorted.{found_in}
use Rattle.cmwq_resume.proofs.left.broken_off.Given as goal

abbrev pub invariant-loop-item : goal.invariant-loop-item
invariant-loop-item l = l.found.items
    ≡ found_in (broken_off_of (is_again l.left_out) (past_of l.state.entries)) (range_with_len 0 l.item)
