use Rattle.cmwq_waits_laws.proofs.Needed.{waits_may_be_let_go}
use Rattle.cmwq_waits_laws.proofs.laws.waits_may_be_let_go.Goals as goal

pub returns : goal.returns
returns c = waits_may_be_let_go
