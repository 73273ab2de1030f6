use Rattle.cmwq_ticket.specs.Common.{◌++◌, ◌∷◌, [], List, length, refl, arith, ap, ◌∙◌, get_or_read_under, Ticket}
use Rattle.cmwq_ticket.proofs.Upkeep.{AreKept-given, HaveRoom-few, few_of_all, may_give_parts}
use Rattle.cmwq_ticket.proofs.tickets.Tickets.give.Goals as goal

pub raise-requires-clause-room : goal.raise-requires-clause-room
raise-requires-clause-room c = let kept = c.self.invariant in
    HaveRoom-few c.self.inside.counts c.self.inside.rows.items kept.exact kept.few kept.in_order

pub overflow_add-self : goal.overflow_add-self
overflow_add-self c =
    let kept = c.self.invariant in
    let few = few_of_all c.self.inside.rows.items kept.few kept.in_order in
    let all = kept.all in
    omega arith

pub invariant_of-self : goal.invariant_of-self
invariant_of-self c =
    let rows = c.self.inside.rows.items in
    let t = c.args.ticket in
    let may = rw (← c.self.view_is) at c.requires in
    let row =
    get_or_read_under rows t.caller.0 (length rows) c.index_mut-row.result.now []
    (rw c.from.ensures at c.index_mut-row.ensures.value)
    (may_give_parts (record { items = c.self.inside.items; queues = c.self.inside.queues; rows = rows }) t
    may).there refl in
    AreKept-given c.self.inside.items c.self.inside.queues c.self.inside.counts rows c.self.inside.len t c.from.result
    c.push.new.self c.raise.new.self c.self.invariant may c.from.ensures
    (c.push.ensures ∙ ap (λ (xs : List Ticket). xs ++ t ∷ []) row) c.raise.ensures
