use Rattle.cmwq_flush.specs.Common.{◌≡◌, ◌∙◌, ◌<◌, [], ℕ, List, Some, length, set, suc, sym, refl, ap, arith}
use Rattle.std.proofs.lemmas.List.{get_or_read, set-get_or}
use Rattle.cmwq_list.specs.Lists.{list_at}
use Rattle.cmwq_flush.specs.FlushBook.{without_oldest}
use Rattle.cmwq_flush.specs.Overflow.{OverflowLists, overflow_of, ticket_of_node, tickets_at, tickets_of_nodes}
use Rattle.cmwq_flush.proofs.Nodes.{in_list}
use Rattle.cmwq_flush.proofs.OverflowNodes.{tickets_at-of, list_there, first_has, first_left, first_ticket, no_first}
use Rattle.cmwq_flush.proofs.OverflowNodes.{oldest_of, nodes_moved, overflow-freed}
use Rattle.cmwq_flush.proofs.overflow.Overflow.pop_front.Goals as goal

pub returns-in_err-node-clause-oldest : goal.returns-in_err-node-clause-oldest
returns-in_err-node-clause-oldest c = grind (arith, tickets_at-of, no_first, c.args.queue.0)

pub returns-in_err-node-clause-rest : goal.returns-in_err-node-clause-rest
returns-in_err-node-clause-rest c =
    let s = c.self.inside in
    let q = c.args.queue.0 in
    let at : c.list_of.result ≡ suc q = omega (arith, c.list_of.ensures) in
    let first = rw at at c.in_err-node.ensures in
    let empty : tickets_at (overflow_of s.lists.lists s.tickets.items) q ≡ [] =
    tickets_at-of s.lists.lists s.tickets.items q
    ∙ ap (tickets_of_nodes s.tickets.items) (no_first s.tickets.items (list_at s.lists.lists (suc q)) first) in
    rw (← c.self.view_is)
    (ap (λ (qs : List (List ℕ)). let o : OverflowLists = record { room = length s.tickets.items; queues = qs } in o)
    (sym (ap (set (overflow_of s.lists.lists s.tickets.items) q) (ap without_oldest empty ∙ sym empty)
    ∙ set-get_or (overflow_of s.lists.lists s.tickets.items) q [])))

pub free-requires-clause-node : goal.free-requires-clause-node
free-requires-clause-node c =
    let s = c.self.inside in
    let q = c.args.queue.0 in
    let at : c.list_of.result ≡ suc q = omega (arith, c.list_of.ensures) in
    let first = rw at at c.in_ok-node.ensures in
    c.self.invariant.known c.in_ok-node.node
    (in_list s.lists.lists c.in_ok-node.node (suc q)
    (first_has (list_at s.lists.lists (suc q)) c.in_ok-node.node first))

pub index-requires : goal.index-requires
index-requires c =
    let s = c.self.inside in
    let q = c.args.queue.0 in
    let at : c.list_of.result ≡ suc q = omega (arith, c.list_of.ensures) in
    let first = rw at at c.in_ok-node.ensures in
    let low =
    c.self.invariant.known c.in_ok-node.node
    (in_list s.lists.lists c.in_ok-node.node (suc q)
    (first_has (list_at s.lists.lists (suc q)) c.in_ok-node.node first)) in
    omega (arith, c.self.invariant.many, s.tickets.ok)

pub invariant_of-self : goal.invariant_of-self
invariant_of-self c =
    let s = c.self.inside in
    let q = c.args.queue.0 in
    let at : c.list_of.result ≡ suc q = omega (arith, c.list_of.ensures) in
    let first = rw at at c.in_ok-node.ensures in
    let here = first_has (list_at s.lists.lists (suc q)) c.in_ok-node.node first in
    let there : suc q < length s.lists.lists =
    list_there s.lists.lists s.tickets.items q c.self.invariant.free (rw (← c.self.view_is) at c.requires) in
    rw c.free.ensures.freed
    (nodes_moved s.lists s.tickets.items s.tickets.items (suc q) 0 c.in_ok-node.node c.free.ensures.once
    c.self.invariant refl there c.self.invariant.free here)

pub returns-clause-oldest : goal.returns-clause-oldest
returns-clause-oldest c =
    let s = c.self.inside in
    let q = c.args.queue.0 in
    let at : c.list_of.result ≡ suc q = omega (arith, c.list_of.ensures) in
    let first = rw at at c.in_ok-node.ensures in
    let xs = list_at s.lists.lists (suc q) in
    let low : c.in_ok-node.node < length s.tickets.items = let l =
    c.self.invariant.known c.in_ok-node.node
    (in_list s.lists.lists c.in_ok-node.node (suc q) (first_has xs c.in_ok-node.node first)) in
    omega (arith, c.self.invariant.many) in
    let is : c.index.result.now ≡ ticket_of_node s.tickets.items c.in_ok-node.node =
    get_or_read s.tickets.items c.in_ok-node.node c.index.result.now low c.index.ensures 0 in
    rw (← c.self.view_is, tickets_at-of s.lists.lists s.tickets.items q)
    (ap Some is ∙ first_ticket s.tickets.items xs c.in_ok-node.node first)

pub returns-clause-rest : goal.returns-clause-rest
returns-clause-rest c =
    let s = c.self.inside in
    let q = c.args.queue.0 in
    let at : c.list_of.result ≡ suc q = omega (arith, c.list_of.ensures) in
    let first = rw at at c.in_ok-node.ensures in
    let xs = list_at s.lists.lists (suc q) in
    let here = first_has xs c.in_ok-node.node first in
    let there : suc q < length s.lists.lists =
    list_there s.lists.lists s.tickets.items q c.self.invariant.free (rw (← c.self.view_is) at c.requires) in
    let once = c.free.ensures.once in
    rw (c.free.ensures.freed, ← c.self.view_is)
    (ap (λ (qs : List (List ℕ)). let o : OverflowLists = record { room = length s.tickets.items; queues = qs } in o)
    (overflow-freed s.lists s.tickets.items q c.in_ok-node.node once there here
    ∙ ap (set (overflow_of s.lists.lists s.tickets.items) q)
    (ap (tickets_of_nodes s.tickets.items) (first_left xs c.in_ok-node.node (once.distinct (suc q)) first)
    ∙ oldest_of s.tickets.items xs ∙ ap without_oldest (sym (tickets_at-of s.lists.lists s.tickets.items q)))))
