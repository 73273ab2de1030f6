use Rattle.cmwq_core.proofs.Effecting.{entry_inside}
use Rattle.cmwq_core.proofs.execution.Execution.opened_by.Goals as goal

pub opened_by-requires : goal.opened_by-requires
opened_by-requires c = rw c.self.view_is (entry_inside _ _ _ c.requires.2.legal)
