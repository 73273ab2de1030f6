use Rattle.cmwq_model.specs.Prelude.{past_of, unended_tickets}
use Rattle.cmwq_refinement.specs.Tickets.{tickets_held}
use Rattle.cmwq_key.proofs.Coding.{rows_go_on}
use Rattle.cmwq_key.proofs.key.numbered.fill_tickets.Goals as goal

pub loop-caller-preserved : goal.loop-caller-preserved
loop-caller-preserved c =
    rows_go_on (tickets_held (unended_tickets (past_of c.args.state.now.entries))) _ _ c.loop-caller.caller
    c.loop-caller.invariant c.in_ok-push_tickets_of.ensures
