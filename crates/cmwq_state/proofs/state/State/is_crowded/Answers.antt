use Rattle.cmwq_state.specs.Common.{◌∙◌, ap, layout_of, past_of, crowded_alike, rows_for_callers}
use Rattle.cmwq_ticket.specs.Rows.{TicketBook, is_row_crowded}
use Rattle.cmwq_state.proofs.Readings.{not_crowded}
use Rattle.cmwq_state.proofs.state.State.is_crowded.Goals as goal

pub is_crowded-requires : goal.is_crowded-requires
is_crowded-requires c = let b = c.self.inside in let here = rw (← c.self.view_is, c.in-Caller.is) at c.requires in
    rw (c.self.invariant.parts_are.tickets, rows_for_callers (layout_of b.counts b.queues.items) (past_of b.entries))
    here

pub returns-in-Caller : goal.returns-in-Caller
returns-in-Caller c =
    let b = c.self.inside in let here = rw (← c.self.view_is, c.in-Caller.is) at c.requires in let i =
    c.in-Caller.caller.0 in
    rw (← c.self.view_is, c.in-Caller.is)
    (c.is_crowded.ensures
    ∙ (ap (λ (b : TicketBook). is_row_crowded b.rows i) c.self.invariant.parts_are.tickets
    ∙ crowded_alike (layout_of b.counts b.queues.items) (past_of b.entries) i here))

pub returns-in-Worker : goal.returns-in-Worker
returns-in-Worker c = not_crowded (past_of c.args.self.now.entries) c.in-Worker.is
