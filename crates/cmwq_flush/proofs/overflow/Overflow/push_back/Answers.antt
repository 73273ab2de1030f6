use Rattle.cmwq_flush.specs.Common.{◌≡◌, ◌∙◌, ◌<◌, ℕ, List, length, set, suc, sym, ap₂, arith}
use Rattle.std.proofs.lemmas.List.{length-set}
use Rattle.cmwq_list.specs.Lists.{list_at}
use Rattle.cmwq_flush.specs.Overflow.{OverflowLists}
use Rattle.cmwq_flush.proofs.Nodes.{in_list}
use Rattle.cmwq_flush.proofs.OverflowNodes.{list_there, free_counted, some_first, first_has, in_none, nodes_moved}
use Rattle.cmwq_flush.proofs.OverflowNodes.{overflow-taken}
use Rattle.cmwq_flush.proofs.overflow.Overflow.push_back.Goals as goal

pub unwrap-node-requires : goal.unwrap-node-requires
unwrap-node-requires c = grind (arith, free_counted, some_first)

pub remove-requires : goal.remove-requires
remove-requires c =
    let s = c.self.inside in
    let first = sym c.unwrap-node.ensures ∙ c.first.ensures in
    c.self.invariant.known c.unwrap-node.result
    (in_list s.lists.lists c.unwrap-node.result 0 (first_has (list_at s.lists.lists 0) c.unwrap-node.result first))

pub index_mut-requires : goal.index_mut-requires
index_mut-requires c =
    let s = c.self.inside in
    let first = sym c.unwrap-node.ensures ∙ c.first.ensures in
    let low =
    c.self.invariant.known c.unwrap-node.result
    (in_list s.lists.lists c.unwrap-node.result 0
    (first_has (list_at s.lists.lists 0) c.unwrap-node.result first)) in
    omega (arith, c.self.invariant.many, s.tickets.ok)

pub push_back-requires-clause-item : goal.push_back-requires-clause-item
push_back-requires-clause-item c =
    let s = c.self.inside in
    let first = sym c.unwrap-node.ensures ∙ c.first.ensures in
    rw c.remove.ensures.rest
    (c.self.invariant.known c.unwrap-node.result
    (in_list s.lists.lists c.unwrap-node.result 0 (first_has (list_at s.lists.lists 0) c.unwrap-node.result first)))

pub push_back-requires-clause-free : goal.push_back-requires-clause-free
push_back-requires-clause-free c = let s = c.self.inside in
    rw c.remove.ensures.rest (in_none s.lists.lists c.unwrap-node.result)

pub invariant_of-self : goal.invariant_of-self
invariant_of-self c =
    let s = c.self.inside in
    let q = c.args.queue.0 in
    let at : c.list_of.result ≡ suc q = omega (arith, c.list_of.ensures) in
    let v = c.unwrap-node.result in
    let first = sym c.unwrap-node.ensures ∙ c.first.ensures in
    let here = first_has (list_at s.lists.lists 0) v first in
    let there : suc q < length s.lists.lists =
    list_there s.lists.lists s.tickets.items q c.self.invariant.free (rw (← c.self.view_is) at c.requires.queue) in
    rw (c.push_back.ensures, c.remove.ensures.rest, at)
    (nodes_moved s.lists s.tickets.items (set s.tickets.items v c.args.ticket) 0 (suc q) v c.remove.ensures.once
    c.self.invariant (length-set s.tickets.items v c.args.ticket) c.self.invariant.free there here)

pub returns : goal.returns
returns c =
    let s = c.self.inside in
    let q = c.args.queue.0 in
    let at : c.list_of.result ≡ suc q = omega (arith, c.list_of.ensures) in
    let v = c.unwrap-node.result in
    let first = sym c.unwrap-node.ensures ∙ c.first.ensures in
    let here = first_has (list_at s.lists.lists 0) v first in
    let there : suc q < length s.lists.lists =
    list_there s.lists.lists s.tickets.items q c.self.invariant.free (rw (← c.self.view_is) at c.requires.queue) in
    let low : v < length s.tickets.items = let l = c.self.invariant.known v (in_list s.lists.lists v 0 here) in
    omega (arith, c.self.invariant.many) in
    rw (c.push_back.ensures, c.remove.ensures.rest, at, ← c.self.view_is)
    (ap₂ (λ (n : ℕ) (qs : List (List ℕ)). let o : OverflowLists = record { room = n; queues = qs } in o)
    (length-set s.tickets.items v c.args.ticket)
    (overflow-taken s.lists s.tickets.items q v c.args.ticket c.remove.ensures.once there low here))
