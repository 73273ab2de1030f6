use Rattle.std.proofs.Common.{◌∙◌, ap, arith, length, sym, [], slice_index_or}
use Rattle.cmwq_pool.proofs.Seeing.{as_many, as_many_items, as_many_workers}
use Rattle.cmwq_pool.proofs.pools.Pools.copy_from.Goals as goal

pub copy_from-requires-clause-items : goal.copy_from-requires-clause-items
copy_from-requires-clause-items c =
    let s = c.self.inside in
    let o = c.other.inside in
    as_many_items s.lists o.lists s.notes o.notes s.workers.items o.workers.items
    (rw (← c.self.view_is, ← c.other.view_is) at c.requires) (grind (arith, c.is_empty.ensures, c.if-not-is_empty.true))

pub copy_from-requires-clause-lists : goal.copy_from-requires-clause-lists
copy_from-requires-clause-lists c =
    let s = c.self.inside in
    let o = c.other.inside in
    c.self.invariant.many
    ∙ (as_many s.lists o.lists s.notes o.notes s.workers.items o.workers.items
    (rw (← c.self.view_is, ← c.other.view_is) at c.requires)
    ∙ sym c.other.invariant.many)

pub copy_from-requires-then-not-is_empty : goal.copy_from-requires-then-not-is_empty
copy_from-requires-then-not-is_empty c =
    let s = c.self.inside in
    let o = c.other.inside in
    c.self.invariant.noted
    ∙ (as_many_items s.lists o.lists s.notes o.notes s.workers.items o.workers.items
    (rw (← c.self.view_is, ← c.other.view_is) at c.requires)
    (grind (arith, c.is_empty.ensures, c.if-not-is_empty.true))
    ∙ sym c.other.invariant.noted)

pub copy_workers-requires-clause-many : goal.copy_workers-requires-clause-many
copy_workers-requires-clause-many c =
    let s = c.self.inside in
    let o = c.other.inside in
    ap length c.deref_mut.ensures.value
    ∙ (as_many s.lists o.lists s.notes o.notes s.workers.items o.workers.items
    (rw (← c.self.view_is, ← c.other.view_is) at c.requires)
    ∙ sym (ap length c.deref.ensures.value))

pub copy_workers-requires-clause-each : goal.copy_workers-requires-clause-each
copy_workers-requires-clause-each c = λ p.
    let s = c.self.inside in
    let o = c.other.inside in
    ap (λ ws. length (slice_index_or ws p [])) c.deref_mut.ensures.value
    ∙ (as_many_workers s.lists o.lists s.notes o.notes s.workers.items o.workers.items
    (rw (← c.self.view_is, ← c.other.view_is) at c.requires) p
    ∙ sym (ap (λ ws. length (slice_index_or ws p [])) c.deref.ensures.value))
