use Rattle.cmwq_alike.proofs.Waits.{waits_end, waits_go_on}
use Rattle.cmwq_alike.proofs.alike.waits_go_on_alike.Goals as goal

pub returns : goal.returns
returns c = assumption (waits_go_on, waits_end)
