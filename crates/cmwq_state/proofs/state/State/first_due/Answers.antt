use Rattle.cmwq_state.specs.Common.{◌∙◌, ap, layout_of, past_of, any_drains, draining_alike, HoldsDraining}
use Rattle.cmwq_ticket.specs.Rows.{TicketBook}
use Rattle.cmwq_state.proofs.Firing.{next_due}
use Rattle.cmwq_state.proofs.state.State.first_due.Goals as goal

pub returns : goal.returns
returns c =
    let b = c.self.inside in let s = layout_of b.counts b.queues.items in let past = past_of b.entries in let are =
    c.self.invariant.parts_are in
    let holds : HoldsDraining s past c.drains.result.now =
    λ q here. c.drains.ensures q
    ∙ (ap (λ (b : TicketBook). any_drains b.rows q) are.tickets ∙ draining_alike s past q c.self.invariant.legal) in
    rw (← c.self.view_is)
    (next_due s past c.drains.result.now c.first_due.result c.self.invariant.legal holds
    (rw (are.time, are.timers) at c.first_due.ensures.found)
    (rw (are.time, are.timers) at c.first_due.ensures.none))
