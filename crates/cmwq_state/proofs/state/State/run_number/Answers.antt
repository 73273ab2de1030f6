use Rattle.cmwq_state.specs.Common.{sym, ◌∙◌, past_of}
use Rattle.cmwq_state.proofs.Ends.{run_waits}
use Rattle.cmwq_state.proofs.state.State.run_number.Goals as goal

pub returns-in-Some : goal.returns-in-Some
returns-in-Some c = let b = c.args.self.now in
    run_waits b.layout (past_of b.entries) c.args.item _ c.item_run.ensures.legal
    (sym c.item_run.ensures.is ∙ c.in-Some.is)

pub returns-in-None : goal.returns-in-None
returns-in-None c = let b = c.args.self.now in
    run_waits b.layout (past_of b.entries) c.args.item _ c.item_run.ensures.legal
    (sym c.item_run.ensures.is ∙ c.in-None.is)
