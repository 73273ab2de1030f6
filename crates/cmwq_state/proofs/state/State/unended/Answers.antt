use Rattle.cmwq_state.specs.Common.{◌∙◌, ap, layout_of, past_of, rows_for_callers, unended_tickets}
use Rattle.std.specs.Prelude.{slice_get}
use Rattle.cmwq_ticket.specs.Rows.{TicketBook, tickets_of_caller}
use Rattle.cmwq_refinement.proofs.TicketRows.{row_is}
use Rattle.cmwq_state.proofs.state.State.unended.Goals as goal

pub get-requires : goal.get-requires
get-requires c = let b = c.self.inside in let here = rw (← c.self.view_is) at c.requires in
    rw (c.self.invariant.parts_are.tickets, rows_for_callers (layout_of b.counts b.queues.items) (past_of b.entries))
    here

pub returns : goal.returns
returns c =
    let b = c.self.inside in let here = rw (← c.self.view_is) at c.requires in let i = c.args.caller.0 in
    let s = layout_of b.counts b.queues.items in
    rw (← c.self.view_is)
    (c.get.ensures
    ∙ (ap (λ (t : TicketBook). slice_get (tickets_of_caller t.rows i) c.args.index) c.self.invariant.parts_are.tickets
    ∙ ap (λ ts. slice_get ts c.args.index) (row_is s.callers (unended_tickets (past_of b.entries)) i here)))
