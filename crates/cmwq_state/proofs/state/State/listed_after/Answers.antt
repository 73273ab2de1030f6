use Rattle.cmwq_state.specs.Common.{◌≡◌, ℕ, ◌+◌, ◌∙◌, Some, ap, layout_of, past_of, refl, slice_get}
use Rattle.cmwq_state.specs.Common.{sym, task_for, PoolState}
use Rattle.cmwq_state.proofs.Refine.{pool_found, pool_there}
use Rattle.cmwq_state.proofs.Listed.{listed_open, none_listed, task_stands}
use Rattle.cmwq_model.specs.Prelude.{worklist}
use Rattle.cmwq_state.proofs.state.State.listed_after.Goals as goal

pub after-requires-clause-pool : goal.after-requires-clause-pool
after-requires-clause-pool c =
    let b = c.self.inside in
    let s = layout_of b.counts b.queues.items in let past = past_of b.entries in let are =
    c.self.invariant.parts_are.pools in
    let here = rw (← c.self.view_is) at c.requires.pool in
    pool_there s past b.pools c.args.pool c.pool_place.result are here c.pool_place.ensures

pub after-requires-clause-item : goal.after-requires-clause-item
after-requires-clause-item c =
    let b = c.self.inside in
    let s = layout_of b.counts b.queues.items in let past = past_of b.entries in let are =
    c.self.invariant.parts_are.pools in
    let here = rw (← c.self.view_is) at c.requires.pool in
    let pool = pool_found s past b.pools c.args.pool c.pool_place.result are here c.pool_place.ensures in
    rw pool (rw (← c.self.view_is) at c.requires.item)

pub unstarted-requires : goal.unstarted-requires
unstarted-requires c =
    let b = c.self.inside in
    let s = layout_of b.counts b.queues.items in let past = past_of b.entries in let are =
    c.self.invariant.parts_are.pools in
    let here = rw (← c.self.view_is) at c.requires.pool in
    let pool = pool_found s past b.pools c.args.pool c.pool_place.result are here c.pool_place.ensures in
    rw (← c.self.view_is) (rw (c.in-Some.is, pool) at c.after.ensures.known)

pub returns-in-Some : goal.returns-in-Some
returns-in-Some c =
    let b = c.self.inside in
    let s = layout_of b.counts b.queues.items in let past = past_of b.entries in let are =
    c.self.invariant.parts_are.pools in
    let here = rw (← c.self.view_is) at c.requires.pool in
    let pool = pool_found s past b.pools c.args.pool c.pool_place.result are here c.pool_place.ensures in
    let next = λ (k : ℕ) (stands : slice_get (worklist s past c.args.pool) k ≡ Some c.args.queueing).
    sym (c.after.ensures.next k (task_for s c.args.queueing)
    (rw pool (task_stands s past c.args.pool k c.args.queueing stands)) refl
    ∙ ap (λ (l : PoolState). slice_get l.listed (k + 1)) pool) in
    λ k stands.
    let old = rw (← c.self.view_is) at stands in
    c.unstarted.ensures
    ∙ (rw (← c.self.view_is)
    (listed_open s past c.args.pool (k + 1) c.in-Some.task c.self.invariant.legal (next k old ∙ c.in-Some.is)).is)

pub returns-in-None : goal.returns-in-None
returns-in-None c =
    let b = c.self.inside in
    let s = layout_of b.counts b.queues.items in let past = past_of b.entries in let are =
    c.self.invariant.parts_are.pools in
    let here = rw (← c.self.view_is) at c.requires.pool in
    let pool = pool_found s past b.pools c.args.pool c.pool_place.result are here c.pool_place.ensures in
    let next = λ (k : ℕ) (stands : slice_get (worklist s past c.args.pool) k ≡ Some c.args.queueing).
    sym (c.after.ensures.next k (task_for s c.args.queueing)
    (rw pool (task_stands s past c.args.pool k c.args.queueing stands)) refl
    ∙ ap (λ (l : PoolState). slice_get l.listed (k + 1)) pool) in
    λ k stands.
    let old = rw (← c.self.view_is) at stands in
    rw (← c.self.view_is) (none_listed s past c.args.pool (k + 1) (next k old ∙ c.in-None.is))
