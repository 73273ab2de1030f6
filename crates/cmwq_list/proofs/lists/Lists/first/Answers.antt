use Rattle.std.proofs.Common.{◌≡◌, ◌<◌, ◌≤◌, ◌+◌, ◌∙◌, ap, length, arith, get_or, Some}
use Rattle.std.proofs.lemmas.List.{get_or_default}
use Rattle.cmwq_list.specs.Links.{lists_of, link_at}
use Rattle.cmwq_list.proofs.Reading.{many_lists, first_some, first_none}
use Rattle.cmwq_list.proofs.lists.Lists.first.Goals as goal

pub index-first-requires : goal.index-first-requires
index-first-requires c = grind (arith, many_lists)

pub returns-then-first-len : goal.returns-then-first-len
returns-then-first-len c =
    let s = c.self.inside in
    let low : c.args.list < length (lists_of s.next.items s.owners.items s.lens.items) =
    rw (← c.self.view_is) at c.requires in
    let m = many_lists s.next.items s.prev.items s.owners.items s.lens.items c.self.invariant in
    let many = c.self.invariant.many in
    let place : c.len.result ≡ length s.owners.items = omega (arith, s.owners.ok, c.len.ensures) in
    let read : c.index-first.result.now ≡ link_at s.next.items (length s.owners.items + c.args.list) =
    c.index-first.ensures
    ∙ (get_or_default s.next.items (c.len.result + c.from.result) c.index-first.result.now 0
    (omega (arith, c.from.ensures))
    ∙ ap (λ k. get_or s.next.items k 0)
    (let sum : c.len.result + c.from.result ≡ length s.owners.items + c.args.list =
    omega (arith, place, c.from.ensures) in sum)) in
    let test : c.index-first.result.now < length s.owners.items =
    omega (arith, s.owners.ok, c.len-2.ensures, c.if-first-len.true) in
    rw (← c.self.view_is)
    (ap Some read ∙ first_some s.next.items s.prev.items s.owners.items s.lens.items c.self.invariant c.args.list
    (omega arith) (rw read at test))

pub returns-else-first-len : goal.returns-else-first-len
returns-else-first-len c =
    let s = c.self.inside in
    let low : c.args.list < length (lists_of s.next.items s.owners.items s.lens.items) =
    rw (← c.self.view_is) at c.requires in
    let m = many_lists s.next.items s.prev.items s.owners.items s.lens.items c.self.invariant in
    let many = c.self.invariant.many in
    let place : c.len.result ≡ length s.owners.items = omega (arith, s.owners.ok, c.len.ensures) in
    let read : c.index-first.result.now ≡ link_at s.next.items (length s.owners.items + c.args.list) =
    c.index-first.ensures
    ∙ (get_or_default s.next.items (c.len.result + c.from.result) c.index-first.result.now 0
    (omega (arith, c.from.ensures))
    ∙ ap (λ k. get_or s.next.items k 0)
    (let sum : c.len.result + c.from.result ≡ length s.owners.items + c.args.list =
    omega (arith, place, c.from.ensures) in sum)) in
    let test : length s.owners.items ≤ c.index-first.result.now =
    omega (arith, s.owners.ok, c.len-2.ensures, c.if-first-len.false) in
    rw (← c.self.view_is)
    (first_none s.next.items s.prev.items s.owners.items s.lens.items c.self.invariant c.args.list (omega arith)
    (rw read at test))
