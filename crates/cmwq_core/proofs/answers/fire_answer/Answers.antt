use Rattle.cmwq_core.specs.Common.{sym, ◌∙◌, past_of}
use Rattle.cmwq_core.proofs.Firing.{fires, fires_none}
use Rattle.cmwq_core.proofs.answers.fire_answer.Goals as goal

pub returns-in-Some : goal.returns-in-Some
returns-in-Some c =
    rw c.number.ensures
    (fires (past_of c.args.state.now.entries) c.in-Some.item _ (sym c.first_due.ensures ∙ c.in-Some.is))

pub returns-in-None : goal.returns-in-None
returns-in-None c = fires_none (past_of c.args.state.now.entries) _ (sym c.first_due.ensures ∙ c.in-None.is)
