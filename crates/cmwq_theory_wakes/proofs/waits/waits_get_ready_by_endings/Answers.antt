use Rattle.cmwq_theory_wakes.proofs.Readiness.{released_by}
use Rattle.cmwq_theory_wakes.proofs.waits.waits_get_ready_by_endings.Goals as goal

pub returns : goal.returns
returns c = released_by
