use Rattle.cmwq_theory_wakes.proofs.Readiness.{flushes_in_order}
use Rattle.cmwq_theory_wakes.proofs.waits.flushes_get_ready_in_order.Goals as goal

pub returns : goal.returns
returns c = flushes_in_order
