use Rattle.cmwq_flush.specs.Common.{◌≡◌, ◌∙◌, ◌<◌, ℕ, List, length, set, suc, sym, refl, ap, arith}
use Rattle.cmwq_list.specs.Lists.{list_at}
use Rattle.cmwq_flush.specs.Overflow.{OverflowLists, overflow_of}
use Rattle.cmwq_flush.proofs.Nodes.{in_list}
use Rattle.cmwq_flush.specs.Numbers.{without}
use Rattle.cmwq_flush.proofs.OverflowNodes.{tickets_at-of, list_there, from_has, found_some, found_ticket, nodes_moved}
use Rattle.cmwq_flush.proofs.OverflowNodes.{overflow-freed, ticket_gone}
use Rattle.cmwq_flush.proofs.overflow.Overflow.remove.Goals as goal

pub unwrap-node-requires : goal.unwrap-node-requires
unwrap-node-requires c = grind (arith, tickets_at-of, found_some, c.args.queue.0)

pub free-requires-clause-node : goal.free-requires-clause-node
free-requires-clause-node c =
    let s = c.self.inside in
    let q = c.args.queue.0 in
    let at : c.list_of.result ≡ suc q = omega (arith, c.list_of.ensures) in
    let first = rw (at, c.deref.ensures.value) at (sym c.unwrap-node.ensures ∙ c.first_from.ensures.first) in
    c.self.invariant.known c.unwrap-node.result
    (in_list s.lists.lists c.unwrap-node.result (suc q)
    (from_has s.tickets.items c.args.ticket c.unwrap-node.result (list_at s.lists.lists (suc q)) (sym first)))

pub invariant_of-self : goal.invariant_of-self
invariant_of-self c =
    let s = c.self.inside in
    let q = c.args.queue.0 in
    let at : c.list_of.result ≡ suc q = omega (arith, c.list_of.ensures) in
    let first = rw (at, c.deref.ensures.value) at (sym c.unwrap-node.ensures ∙ c.first_from.ensures.first) in
    let here =
    from_has s.tickets.items c.args.ticket c.unwrap-node.result (list_at s.lists.lists (suc q)) (sym first) in
    let there : suc q < length s.lists.lists =
    list_there s.lists.lists s.tickets.items q c.self.invariant.free (rw (← c.self.view_is) at c.requires.queue) in
    rw c.free.ensures.freed
    (nodes_moved s.lists s.tickets.items s.tickets.items (suc q) 0 c.unwrap-node.result c.free.ensures.once
    c.self.invariant refl there c.self.invariant.free here)

pub returns : goal.returns
returns c =
    let s = c.self.inside in
    let q = c.args.queue.0 in
    let at : c.list_of.result ≡ suc q = omega (arith, c.list_of.ensures) in
    let first = rw (at, c.deref.ensures.value) at (sym c.unwrap-node.ensures ∙ c.first_from.ensures.first) in
    let xs = list_at s.lists.lists (suc q) in
    let here = from_has s.tickets.items c.args.ticket c.unwrap-node.result xs (sym first) in
    let there : suc q < length s.lists.lists =
    list_there s.lists.lists s.tickets.items q c.self.invariant.free (rw (← c.self.view_is) at c.requires.queue) in
    let rise = rw (← c.self.view_is, tickets_at-of s.lists.lists s.tickets.items q) at c.requires.rise in
    let stands = rw (← c.self.view_is, tickets_at-of s.lists.lists s.tickets.items q) at c.requires.stands in
    let ticket = found_ticket s.tickets.items c.args.ticket c.unwrap-node.result xs rise stands (sym first) in
    rw (c.free.ensures.freed, ← c.self.view_is)
    (ap (λ (qs : List (List ℕ)). let o : OverflowLists = record { room = length s.tickets.items; queues = qs } in o)
    (overflow-freed s.lists s.tickets.items q c.unwrap-node.result c.free.ensures.once there here
    ∙ ap (set (overflow_of s.lists.lists s.tickets.items) q)
    (ticket_gone s.tickets.items xs c.unwrap-node.result c.args.ticket rise here ticket
    ∙ ap (without c.args.ticket) (sym (tickets_at-of s.lists.lists s.tickets.items q)))))
