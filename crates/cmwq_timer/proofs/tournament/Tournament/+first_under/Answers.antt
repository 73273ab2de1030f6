use Rattle.std.proofs.Common.{arith}
use Rattle.cmwq_timer.proofs.Under.{above_le, one_row_held, none_due_yet, first_below_more}
use Rattle.cmwq_timer.proofs.tournament.Tournament.+first_under.Goals.{then-level-eq0-via-then-level-eq0}
use Rattle.cmwq_timer.proofs.tournament.Tournament.+first_under.Goals.{then-level-eq0-via-else-level-eq0+then-now-soonest}
use Rattle.cmwq_timer.proofs.tournament.Tournament.+first_under.Goals as goal

pub returns-then-level-eq0 : goal.returns-then-level-eq0
returns-then-level-eq0 t c = grind (arith, one_row_held, none_due_yet)

pub loop-below-preserved : goal.loop-below-preserved
loop-below-preserved t c = grind (arith, first_below_more)

pub overflow_step-below : goal.overflow_step-below
overflow_step-below t c = grind (arith, above_le)

pub overflow_mul-below-end : goal.overflow_mul-below-end
overflow_mul-below-end t c = overflow_step-below t c

pub overflow_add-below-end : goal.overflow_add-below-end
overflow_add-below-end t c = grind (arith, above_le)
