use Rattle.std.proofs.Common.{[], refl, ap, ◌∙◌, filter}
use Rattle.cmwq_ticket.specs.Rows.{is_other_ticket}
use Rattle.cmwq_ticket.proofs.Upkeep.{AreKept-ended, HasCount-found, found_in_row}
use Rattle.cmwq_ticket.proofs.tickets.Tickets.end.Goals as goal

pub lower-requires : goal.lower-requires
lower-requires c =
    let rows = c.self.inside.rows.items in
    let t = c.unwrap-ticket.result in
    let kept = c.self.invariant in
    let is = found_in_row rows c.args.caller.0 c.args.number c.from.result c.index_mut-row.result.now c.find.result t
    (rw (← c.self.view_is) at c.requires) c.from.ensures c.index_mut-row.ensures.value c.find.ensures
    c.unwrap-ticket.ensures in
    HasCount-found c.self.inside.counts rows kept.exact c.args.caller.0 c.args.number t is.there
    (kept.in_order c.args.caller.0 [] is.there).rising is.found t.call refl

pub invariant_of-self : goal.invariant_of-self
invariant_of-self c =
    let rows = c.self.inside.rows.items in
    let t = c.unwrap-ticket.result in
    let is = found_in_row rows c.args.caller.0 c.args.number c.from.result c.index_mut-row.result.now c.find.result t
    (rw (← c.self.view_is) at c.requires) c.from.ensures c.index_mut-row.ensures.value c.find.ensures
    c.unwrap-ticket.ensures in
    AreKept-ended c.self.inside.items c.self.inside.queues c.self.inside.counts rows c.self.inside.len c.args.caller.0
    c.args.number t c.from.result c.remove.new.self c.lower.new.self c.self.invariant is.there is.found
    c.from.ensures (c.remove.ensures ∙ ap (filter (is_other_ticket c.args.number)) is.row_is) c.lower.ensures
