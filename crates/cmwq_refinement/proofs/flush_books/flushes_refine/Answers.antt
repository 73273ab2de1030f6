use Rattle.cmwq_refinement.proofs.FlushSteps.{flushes_at_first, flushes_refine}
use Rattle.cmwq_refinement.proofs.FlushReads.{unended_flushes_stand, ready_flushes_wait_for_nothing}
use Rattle.cmwq_refinement.proofs.FlushReads.{flushes_wait_for_least_open, drains_wait_for_least_open}
use Rattle.cmwq_refinement.proofs.FlushReads.{flushes_wait_for_next, flushes_wait_within, overflowed_are_behind_fifteen}
use Rattle.cmwq_refinement.proofs.FlushEnds.{done_flushes_may_end}
use Rattle.cmwq_refinement.proofs.FlushMay.{entries_apply_to_flushes, given_flushes_have_room}
use Rattle.cmwq_refinement.proofs.flush_books.flushes_refine.Goals as goal

ruleset history = (
  flushes_at_first,
  flushes_refine,
  unended_flushes_stand,
  entries_apply_to_flushes,
  given_flushes_have_room,
  done_flushes_may_end,
)

ruleset waiting = (
  ready_flushes_wait_for_nothing,
  flushes_wait_within,
  flushes_wait_for_next,
  flushes_wait_for_least_open,
  drains_wait_for_least_open,
  overflowed_are_behind_fifteen,
)

pub returns : goal.returns
returns c = assumption (history, waiting)
