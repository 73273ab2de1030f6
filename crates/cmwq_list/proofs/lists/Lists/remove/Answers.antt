use Rattle.std.proofs.Common.{◌≡◌, ◌<◌, ◌∙◌, sym, ap, length}
use Rattle.std.proofs.lemmas.List.{get_or_default}
use Rattle.cmwq_list.specs.Links.{owner_at}
use Rattle.cmwq_list.proofs.Reading.{none_taken, are_listed_once}
use Rattle.cmwq_list.proofs.lists.Lists.remove.Goals as goal

pub returns-else-owner-clause-rest : goal.returns-else-owner-clause-rest
returns-else-owner-clause-rest c =
    let s = c.self.inside in
    let known : c.args.item < length s.owners.items = rw (← c.self.view_is) at c.requires in
    let read : owner_at s.owners.items c.args.item ≡ c.index-owner.result.now =
    get_or_default s.owners.items c.args.item 65535 c.index-owner.result.now known ∙ sym c.index-owner.ensures in
    let none : owner_at s.owners.items c.args.item ≡ 65535 = read ∙ c.if-owner.false in
    rw (← c.self.view_is)
    (ap (λ ls. record { items = length s.owners.items; lists = ls })
    (none_taken s.next.items s.prev.items s.owners.items s.lens.items c.self.invariant c.args.item none))

pub returns-then-owner-clause-once : goal.returns-then-owner-clause-once
returns-then-owner-clause-once c =
    rw (← c.self.view_is)
    (are_listed_once c.self.inside.next.items c.self.inside.prev.items c.self.inside.owners.items
    c.self.inside.lens.items c.self.invariant)

pub returns-else-owner-clause-once : goal.returns-else-owner-clause-once
returns-else-owner-clause-once c =
    rw (← c.self.view_is)
    (are_listed_once c.self.inside.next.items c.self.inside.prev.items c.self.inside.owners.items
    c.self.inside.lens.items c.self.invariant)
