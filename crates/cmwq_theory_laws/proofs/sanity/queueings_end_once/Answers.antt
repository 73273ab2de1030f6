use Rattle.cmwq_theory_laws.proofs.EndedOnce.{queueings_end_once}
use Rattle.cmwq_theory_laws.proofs.sanity.queueings_end_once.Goals as goal

pub returns : goal.returns
returns c = queueings_end_once
