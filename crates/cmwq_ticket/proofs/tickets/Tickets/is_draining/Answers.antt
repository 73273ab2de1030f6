use Rattle.cmwq_ticket.specs.Common.{◌∙◌, is_drain_of}
use Rattle.cmwq_ticket.proofs.Counting.{any_counted}
use Rattle.cmwq_ticket.proofs.tickets.Tickets.is_draining.Goals as goal

pub returns : goal.returns
returns c =
    let inside = c.self.inside in
    let at = rw (c.from.ensures, c.drains.ensures) at c.has_some.ensures in
    rw (← c.self.view_is)
    (at ∙ any_counted is_drain_of inside.counts.drains inside.rows.items c.self.invariant.exact.drains
    c.args.queue.0)
