use Rattle.cmwq_waiting.proofs.Lent.{lent_tickets_are_waits}
use Rattle.cmwq_waiting.proofs.laws.lent_tickets_are_waits.Goals as goal

pub returns : goal.returns
returns c = lent_tickets_are_waits
