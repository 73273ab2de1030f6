use Rattle.cmwq_waiting.proofs.Rest.{only_frozen_are_open}
use Rattle.cmwq_waiting.proofs.laws.only_frozen_are_open.Goals as goal

pub returns : goal.returns
returns c = only_frozen_are_open
