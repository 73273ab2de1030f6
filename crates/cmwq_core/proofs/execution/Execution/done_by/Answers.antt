use Rattle.cmwq_core.proofs.Effecting.{legal_there}
use Rattle.cmwq_core.proofs.execution.Execution.done_by.Goals as goal

pub done_by-requires : goal.done_by-requires
done_by-requires c = rw c.self.view_is (legal_there _ _ _ c.requires.2.legal)
