use Rattle.cmwq_state.specs.Common.{◌∙◌, ap, layout_of, past_of, rows_for_callers, tickets_found_alike}
use Rattle.cmwq_ticket.specs.Rows.{TicketBook, ticket_of_caller}
use Rattle.cmwq_state.proofs.Readings.{no_ticket}
use Rattle.cmwq_state.proofs.state.State.ticket_of.Goals as goal

pub find-requires : goal.find-requires
find-requires c = let b = c.self.inside in let here = rw (← c.self.view_is, c.in-Caller.is) at c.requires in
    rw (c.self.invariant.parts_are.tickets, rows_for_callers (layout_of b.counts b.queues.items) (past_of b.entries))
    here

pub returns-in-Caller-clause-is : goal.returns-in-Caller-clause-is
returns-in-Caller-clause-is c =
    let b = c.self.inside in let here = rw (← c.self.view_is, c.in-Caller.is) at c.requires in let i =
    c.in-Caller.caller.0 in
    rw (← c.self.view_is, c.in-Caller.is)
    (c.find.ensures
    ∙ (ap (λ (b : TicketBook). ticket_of_caller b.rows i c.args.number) c.self.invariant.parts_are.tickets
    ∙ tickets_found_alike (layout_of b.counts b.queues.items) (past_of b.entries) i c.args.number here))

pub returns-in-Worker-clause-is : goal.returns-in-Worker-clause-is
returns-in-Worker-clause-is c = no_ticket (past_of c.args.self.now.entries) c.args.number c.in-Worker.is
