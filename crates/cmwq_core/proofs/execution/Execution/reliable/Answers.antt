use Rattle.cmwq_model.specs.Prelude.{past_of}
use Rattle.cmwq_core.proofs.Relied.{reliable}
use Rattle.cmwq_core.proofs.execution.Execution.reliable.Goals as goal

pub returns : goal.returns
returns c = let h = c.self.inside.state in
    rw (← c.self.view_is) (reliable h.layout (past_of h.entries) c.len-len.ensures.legal)
