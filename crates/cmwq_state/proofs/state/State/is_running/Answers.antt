use Rattle.cmwq_state.specs.Common.{◌∙◌, ap, is_some, past_of}
use Rattle.cmwq_state.proofs.Counting.{running}
use Rattle.cmwq_state.proofs.state.State.is_running.Goals as goal

pub returns : goal.returns
returns c = let b = c.args.self.now in
    c.is_some.ensures
    ∙ (ap is_some c.item_run.ensures.is
    ∙ running b.layout (past_of b.entries) c.args.item.0 c.item_run.ensures.legal)
