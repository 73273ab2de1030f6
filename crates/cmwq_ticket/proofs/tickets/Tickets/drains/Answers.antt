use Rattle.cmwq_ticket.specs.Common.{is_drain_of}
use Rattle.cmwq_ticket.proofs.Counting.{any_counted}
use Rattle.cmwq_ticket.proofs.tickets.Tickets.drains.Goals as goal

pub returns : goal.returns
returns c =
    let inside = c.self.inside in
    rw (← c.self.view_is, c.drains.ensures)
    (λ q. any_counted is_drain_of inside.counts.drains inside.rows.items c.self.invariant.exact.drains q)
