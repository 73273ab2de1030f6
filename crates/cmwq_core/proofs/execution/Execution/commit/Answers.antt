use Rattle.cmwq_core.proofs.Planned.{planned_next}
use Rattle.cmwq_core.proofs.execution.Execution.commit.Goals as goal

pub enter-requires-clause-next : goal.enter-requires-clause-next
enter-requires-clause-next c = rw c.self.view_is (planned_next _ _ _ _ c.requires.2)

pub enter-requires-clause-legal : goal.enter-requires-clause-legal
enter-requires-clause-legal c = rw c.self.view_is c.requires.2.legal
