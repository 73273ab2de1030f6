use Rattle.cmwq_state.specs.Common.{◌∙◌, ap, layout_of, past_of, any_destroys, destroyed_alike}
use Rattle.cmwq_ticket.specs.Rows.{TicketBook}
use Rattle.cmwq_state.proofs.state.State.is_being_destroyed.Goals as goal

pub returns : goal.returns
returns c = let b = c.self.inside in
    rw (← c.self.view_is)
    (c.is_being_destroyed.ensures
    ∙ (ap (λ (b : TicketBook). any_destroys b.rows c.args.queue.0) c.self.invariant.parts_are.tickets
    ∙ destroyed_alike (layout_of b.counts b.queues.items) (past_of b.entries) c.args.queue.0
    c.self.invariant.legal))
