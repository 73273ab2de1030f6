use Rattle.cmwq_state.specs.Common.{◌∙◌, ap, layout_of, past_of, PoolState, slot_may_retire, idle_retire_alike}
use Rattle.cmwq_state.specs.Common.{slots_for_workers}
use Rattle.cmwq_state.proofs.Refine.{pool_found, pool_there}
use Rattle.cmwq_state.proofs.state.State.may_retire.Goals as goal

pub may_retire-requires-clause-pool : goal.may_retire-requires-clause-pool
may_retire-requires-clause-pool c =
    let b = c.self.inside in
    let s = layout_of b.counts b.queues.items in let past = past_of b.entries in let are =
    c.self.invariant.parts_are.pools in
    let here = rw (← c.self.view_is) at c.requires.0 in
    pool_there s past b.pools c.args.worker.pool c.pool_place.result are here c.pool_place.ensures

pub may_retire-requires-clause-worker : goal.may_retire-requires-clause-worker
may_retire-requires-clause-worker c =
    let b = c.self.inside in
    let s = layout_of b.counts b.queues.items in let past = past_of b.entries in let are =
    c.self.invariant.parts_are.pools in
    let here = rw (← c.self.view_is) at c.requires.0 in
    let index = rw (← c.self.view_is) at c.requires.1 in
    rw (
      pool_found s past b.pools c.args.worker.pool c.pool_place.result are here c.pool_place.ensures,
      slots_for_workers s past c.args.worker.pool,
    ) index

pub returns : goal.returns
returns c =
    let b = c.self.inside in
    let s = layout_of b.counts b.queues.items in let past = past_of b.entries in let are =
    c.self.invariant.parts_are.pools in
    let here = rw (← c.self.view_is) at c.requires.0 in
    let index = rw (← c.self.view_is) at c.requires.1 in
    rw (← c.self.view_is)
    (c.may_retire.ensures
    ∙ (ap (λ (l : PoolState). slot_may_retire l.slots c.args.worker.index)
    (pool_found s past b.pools c.args.worker.pool c.pool_place.result are here c.pool_place.ensures)
    ∙ idle_retire_alike s past c.args.worker.pool c.args.worker.index c.self.invariant.legal index))
