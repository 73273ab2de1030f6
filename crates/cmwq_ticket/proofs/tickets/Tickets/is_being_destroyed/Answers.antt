use Rattle.cmwq_ticket.specs.Common.{◌∙◌, is_destroy_of}
use Rattle.cmwq_ticket.proofs.Counting.{any_counted}
use Rattle.cmwq_ticket.proofs.tickets.Tickets.is_being_destroyed.Goals as goal

pub returns : goal.returns
returns c =
    let inside = c.self.inside in
    let at = rw (c.from.ensures, c.destroys.ensures) at c.has_some.ensures in
    rw (← c.self.view_is)
    (at ∙ any_counted is_destroy_of inside.counts.destroys inside.rows.items c.self.invariant.exact.destroys
    c.args.queue.0)
