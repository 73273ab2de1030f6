use Rattle.cmwq_model.specs.Prelude.{past_of}
use Rattle.cmwq_key.specs.Keys.{told_ticket}
use Rattle.cmwq_key.proofs.Coding.{list_goes_on}
use Rattle.cmwq_key.proofs.key.tickets.push_all_tickets.Goals as goal

pub loop-ticket-preserved : goal.loop-ticket-preserved
loop-ticket-preserved c =
    list_goes_on (told_ticket (past_of c.args.state.now.entries) c.args.numbered.now) c.args.all.now _ _ _ _ _
    c.loop-ticket.ticket-index c.loop-ticket-test.true c.loop-ticket.invariant
    c.in_ok-push_ticket.ensures
