use Rattle.cmwq_state.specs.Common.{◌∙◌, ap, subst, sym, layout_of, past_of, PoolState, slot_at, slots_are_workers}
use Rattle.cmwq_state.specs.Common.{slots_for_workers, slot_is}
use Rattle.cmwq_pool.specs.declared.slot.Slot.{Slot}
use Rattle.cmwq_refinement.specs.Pools.{IsSlotOf}
use Rattle.cmwq_state.proofs.Refine.{pool_found, pool_there}
use Rattle.cmwq_state.proofs.state.State.slot.Goals as goal

pub slot-requires-clause-pool : goal.slot-requires-clause-pool
slot-requires-clause-pool c =
    let b = c.self.inside in
    let s = layout_of b.counts b.queues.items in let past = past_of b.entries in let are =
    c.self.invariant.parts_are.pools in
    let here = rw (← c.self.view_is) at c.requires.0 in
    pool_there s past b.pools c.args.worker.pool c.pool_place.result are here c.pool_place.ensures

pub slot-requires-clause-worker : goal.slot-requires-clause-worker
slot-requires-clause-worker c =
    let b = c.self.inside in
    let s = layout_of b.counts b.queues.items in let past = past_of b.entries in let are =
    c.self.invariant.parts_are.pools in
    let here = rw (← c.self.view_is) at c.requires.0 in
    let index = rw (← c.self.view_is) at c.requires.1 in
    rw (
      pool_found s past b.pools c.args.worker.pool c.pool_place.result are here c.pool_place.ensures,
      slots_for_workers s past c.args.worker.pool,
    ) index

pub returns-clause-is : goal.returns-clause-is
returns-clause-is c =
    let b = c.self.inside in
    let s = layout_of b.counts b.queues.items in let past = past_of b.entries in let are =
    c.self.invariant.parts_are.pools in
    let here = rw (← c.self.view_is) at c.requires.0 in
    let index = rw (← c.self.view_is) at c.requires.1 in
    let slot =
    c.slot.ensures
    ∙ ap (λ (l : PoolState). slot_at l.slots c.args.worker.index)
    (pool_found s past b.pools c.args.worker.pool c.pool_place.result are here c.pool_place.ensures) in
    rw (← c.self.view_is)
    (subst (IsSlotOf past c.args.worker) (sym slot)
    (slots_are_workers s past c.args.worker.pool c.args.worker.index c.self.invariant.legal index))

pub returns-clause-task : goal.returns-clause-task
returns-clause-task c =
    let b = c.self.inside in
    let s = layout_of b.counts b.queues.items in let past = past_of b.entries in let are =
    c.self.invariant.parts_are.pools in
    let here = rw (← c.self.view_is) at c.requires.0 in
    let index = rw (← c.self.view_is) at c.requires.1 in
    let slot =
    c.slot.ensures
    ∙ ap (λ (l : PoolState). slot_at l.slots c.args.worker.index)
    (pool_found s past b.pools c.args.worker.pool c.pool_place.result are here c.pool_place.ensures) in
    rw (← c.self.view_is)
    (ap (λ (x : Slot). x.run) (slot ∙ slot_is s past c.args.worker.pool c.args.worker.index index))

pub returns-clause-legal : goal.returns-clause-legal
returns-clause-legal c = rw (← c.self.view_is) c.self.invariant.legal
