use Rattle.cmwq_waiting.proofs.Hanging.{hubs_never_hang}
use Rattle.cmwq_waiting.proofs.laws.hubs_never_hang.Goals as goal

pub returns : goal.returns
returns c = hubs_never_hang
