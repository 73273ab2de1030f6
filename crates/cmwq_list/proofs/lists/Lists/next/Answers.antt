use Rattle.std.proofs.Common.{◌≡◌, ◌<◌, ◌≤◌, ◌∙◌, length, arith}
use Rattle.std.proofs.lemmas.List.{get_or_default}
use Rattle.cmwq_list.specs.Links.{link_at}
use Rattle.cmwq_list.proofs.Reading.{next_some, next_none}
use Rattle.cmwq_list.proofs.lists.Lists.next.Goals as goal

pub returns-then-behind-len : goal.returns-then-behind-len
returns-then-behind-len c =
    let s = c.self.inside in
    let known : c.args.item < length s.owners.items = rw (← c.self.view_is) at c.requires in
    let many = c.self.invariant.many in
    let read : c.index-behind.result.now ≡ link_at s.next.items c.args.item =
    c.index-behind.ensures ∙ get_or_default s.next.items c.args.item c.index-behind.result.now 0 (omega arith) in
    let test : c.index-behind.result.now < length s.owners.items =
    omega (arith, s.owners.ok, c.len.ensures, c.if-behind-len.true) in
    rw (← c.self.view_is)
    (rw read (next_some s.next.items s.prev.items s.owners.items s.lens.items c.self.invariant c.args.item
    (rw read at test)))

pub returns-else-behind-len : goal.returns-else-behind-len
returns-else-behind-len c =
    let s = c.self.inside in
    let known : c.args.item < length s.owners.items = rw (← c.self.view_is) at c.requires in
    let many = c.self.invariant.many in
    let read : c.index-behind.result.now ≡ link_at s.next.items c.args.item =
    c.index-behind.ensures ∙ get_or_default s.next.items c.args.item c.index-behind.result.now 0 (omega arith) in
    let test : length s.owners.items ≤ c.index-behind.result.now =
    omega (arith, s.owners.ok, c.len.ensures, c.if-behind-len.false) in
    rw (← c.self.view_is)
    (next_none s.next.items s.prev.items s.owners.items s.lens.items c.self.invariant c.args.item (rw read at test))
