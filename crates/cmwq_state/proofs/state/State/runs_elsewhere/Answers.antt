use Rattle.cmwq_state.specs.Common.{sym, ◌∙◌, past_of}
use Rattle.cmwq_state.proofs.Readings.{elsewhere_none}
use Rattle.cmwq_state.proofs.state.State.runs_elsewhere.Goals as goal

pub returns-in-None : goal.returns-in-None
returns-in-None c = let b = c.args.self.now in
    elsewhere_none b.layout (past_of b.entries) c.args.item.0 c.args.queue.0 c.item_run.ensures.legal
    (sym c.item_run.ensures.is ∙ c.in-None.is)
