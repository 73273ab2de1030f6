use Rattle.cmwq_ticket.specs.Common.{◌∙◌, is_cancel_sync_of}
use Rattle.cmwq_ticket.proofs.Counting.{any_counted}
use Rattle.cmwq_ticket.proofs.tickets.Tickets.is_cancelling.Goals as goal

pub returns : goal.returns
returns c =
    let inside = c.self.inside in
    let at = rw (c.from.ensures, c.cancels.ensures) at c.has_some.ensures in
    rw (← c.self.view_is)
    (at ∙ any_counted is_cancel_sync_of inside.counts.cancels inside.rows.items c.self.invariant.exact.cancels
    c.args.item.0)
