use Rattle.cmwq_theory_laws.proofs.OneEntry.{one_entry}
use Rattle.cmwq_theory_laws.proofs.sanity.calls_have_one_entry.Goals as goal

pub returns : goal.returns
returns c = one_entry
