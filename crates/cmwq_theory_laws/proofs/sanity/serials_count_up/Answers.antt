use Rattle.cmwq_theory_laws.proofs.OneEntry.{serials_count}
use Rattle.cmwq_theory_laws.proofs.sanity.serials_count_up.Goals as goal

pub returns : goal.returns
returns c = serials_count
