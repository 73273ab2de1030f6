use Rattle.std.proofs.Common.{◌≡◌, ◌<◌, ◌∙◌, ap, length, arith, get_or}
use Rattle.std.proofs.lemmas.List.{get_or_default}
use Rattle.cmwq_list.specs.Links.{lists_of}
use Rattle.cmwq_list.proofs.Reading.{many_lists, len_is, are_listed_once}
use Rattle.cmwq_list.proofs.Rings.{few_items}
use Rattle.cmwq_list.proofs.lists.Lists.len.Goals as goal

pub index-requires : goal.index-requires
index-requires c = grind (arith, many_lists)

pub returns-clause-len : goal.returns-clause-len
returns-clause-len c =
    let s = c.self.inside in
    let low : c.args.list < length (lists_of s.next.items s.owners.items s.lens.items) =
    rw (← c.self.view_is) at c.requires in
    let m = many_lists s.next.items s.prev.items s.owners.items s.lens.items c.self.invariant in
    let read : c.index.result.now ≡ get_or s.lens.items c.args.list 0 =
    c.index.ensures
    ∙ (get_or_default s.lens.items c.from.result c.index.result.now 0 (omega (arith, c.from.ensures))
    ∙ ap (λ k. get_or s.lens.items k 0) c.from.ensures) in
    rw (← c.self.view_is)
    (read ∙ len_is s.next.items s.prev.items s.owners.items s.lens.items c.self.invariant c.args.list (omega arith))

pub returns-clause-few : goal.returns-clause-few
returns-clause-few c =
    let s = c.self.inside in
    let low : c.args.list < length (lists_of s.next.items s.owners.items s.lens.items) =
    rw (← c.self.view_is) at c.requires in
    let m = many_lists s.next.items s.prev.items s.owners.items s.lens.items c.self.invariant in
    let read : c.index.result.now ≡ get_or s.lens.items c.args.list 0 =
    c.index.ensures
    ∙ (get_or_default s.lens.items c.from.result c.index.result.now 0 (omega (arith, c.from.ensures))
    ∙ ap (λ k. get_or s.lens.items k 0) c.from.ensures) in
    let few =
    few_items s.next.items s.prev.items s.owners.items s.lens.items c.self.invariant c.args.list (omega arith) in
    rw (← c.self.view_is) (omega arith)

pub returns-clause-once : goal.returns-clause-once
returns-clause-once c =
    rw (← c.self.view_is)
    (are_listed_once c.self.inside.next.items c.self.inside.prev.items c.self.inside.owners.items
    c.self.inside.lens.items c.self.invariant)
