use Rattle.cmwq_theory_laws.proofs.WaitedFor.{waits_end_after}
use Rattle.cmwq_theory_laws.proofs.headline.flushes_end_after_all_before.Goals as goal

pub returns : goal.returns
returns c = waits_end_after
