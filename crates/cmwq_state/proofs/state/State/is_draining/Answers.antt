use Rattle.cmwq_state.specs.Common.{◌∙◌, ap, layout_of, past_of, any_drains, draining_alike}
use Rattle.cmwq_ticket.specs.Rows.{TicketBook}
use Rattle.cmwq_state.proofs.state.State.is_draining.Goals as goal

pub returns : goal.returns
returns c = let b = c.self.inside in
    rw (← c.self.view_is)
    (c.is_draining.ensures
    ∙ (ap (λ (b : TicketBook). any_drains b.rows c.args.queue.0) c.self.invariant.parts_are.tickets
    ∙ draining_alike (layout_of b.counts b.queues.items) (past_of b.entries) c.args.queue.0 c.self.invariant.legal))
