use Rattle.std.proofs.Common.{◌≡◌, ◌<◌, ◌∙◌, sym, length, ⊎_elim}
use Rattle.std.proofs.lemmas.List.{get_or_default}
use Rattle.cmwq_list.specs.Links.{owner_at}
use Rattle.cmwq_list.proofs.Reading.{owner_some, owner_none}
use Rattle.cmwq_list.proofs.lists.Lists.list_of.Goals as goal

pub returns-then-owner : goal.returns-then-owner
returns-then-owner c =
    let s = c.self.inside in
    let known : c.args.item < length s.owners.items = rw (← c.self.view_is) at c.requires in
    let read : owner_at s.owners.items c.args.item ≡ c.index-owner.result.now =
    get_or_default s.owners.items c.args.item 65535 c.index-owner.result.now known ∙ sym c.index-owner.ensures in
    rw (← c.self.view_is)
    (owner_none s.next.items s.prev.items s.owners.items s.lens.items c.self.invariant c.args.item
    (read ∙ c.if-owner.true))

pub returns-else-owner : goal.returns-else-owner
returns-else-owner c =
    let s = c.self.inside in
    let known : c.args.item < length s.owners.items = rw (← c.self.view_is) at c.requires in
    let read : owner_at s.owners.items c.args.item ≡ c.index-owner.result.now =
    get_or_default s.owners.items c.args.item 65535 c.index-owner.result.now known ∙ sym c.index-owner.ensures in
    let low : c.index-owner.result.now < length s.lens.items =
    ⊎_elim (λ none. absurd (c.if-owner.false (sym read ∙ none))) (λ h. rw read at h)
    (c.self.invariant.settled c.args.item) in
    rw (← c.self.view_is)
    (owner_some s.next.items s.prev.items s.owners.items s.lens.items c.self.invariant c.args.item
    c.index-owner.result.now read low)
