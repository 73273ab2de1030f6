use Rattle.cmwq_core.proofs.Effecting.{entry_inside, legal_there}
use Rattle.cmwq_core.proofs.execution.Execution.ended_by.Goals as goal

pub ended_by-requires-clause-there : goal.ended_by-requires-clause-there
ended_by-requires-clause-there c = rw c.self.view_is (legal_there _ _ _ c.requires.2.legal)

pub ended_by-requires-clause-inside : goal.ended_by-requires-clause-inside
ended_by-requires-clause-inside c = rw c.self.view_is (entry_inside _ _ _ c.requires.2.legal)
