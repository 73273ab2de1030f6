use Rattle.cmwq_resume.specs.Common.{◌≡◌, range_with_len}
use Rattle.cmwq_model.specs.Prelude.{past_of}
use Rattle.cmwq_resume.specs.Leavings.{later_of}
use Rattle.cmwq_resume.proofs.Sorted.{found_in}
use Rattle.cmwq_resume.proofs.left.later.Given as goal

abbrev pub invariant-loop-item : goal.invariant-loop-item
invariant-loop-item l = l.found.items ≡ found_in (later_of (past_of l.state.entries)) (range_with_len 0 l.item)
