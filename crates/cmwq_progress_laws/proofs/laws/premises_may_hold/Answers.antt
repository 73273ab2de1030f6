use Rattle.cmwq_progress_laws.proofs.Needed.{premises_may_hold}
use Rattle.cmwq_progress_laws.proofs.laws.premises_may_hold.Goals as goal

pub returns : goal.returns
returns c = premises_may_hold
