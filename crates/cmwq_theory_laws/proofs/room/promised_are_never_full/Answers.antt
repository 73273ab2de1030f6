use Rattle.cmwq_theory_laws.proofs.WithinRoom.{promised_never_full}
use Rattle.cmwq_theory_laws.proofs.room.promised_are_never_full.Goals as goal

pub returns : goal.returns
returns c = promised_never_full
