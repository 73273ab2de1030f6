use Rattle.cmwq_state.specs.Common.{◌∙◌, ap, layout_of, past_of, any_ticket, tickets_of_any_caller}
use Rattle.cmwq_ticket.specs.Rows.{TicketBook}
use Rattle.cmwq_state.proofs.state.State.ticket.Goals as goal

pub returns-clause-is : goal.returns-clause-is
returns-clause-is c = let b = c.self.inside in
    rw (← c.self.view_is)
    (c.any.ensures
    ∙ (ap (λ (b : TicketBook). any_ticket b.rows c.args.number) c.self.invariant.parts_are.tickets
    ∙ tickets_of_any_caller (layout_of b.counts b.queues.items) (past_of b.entries) c.args.number
    c.self.invariant.legal))
