use Rattle.cmwq_state.specs.Common.{◌∙◌, ap, layout_of, past_of, PoolState, slots_runnable, runnables_are_runnable}
use Rattle.cmwq_state.proofs.Refine.{pool_found, pool_there}
use Rattle.cmwq_state.proofs.state.State.runnable.Goals as goal

pub runnable-requires : goal.runnable-requires
runnable-requires c =
    let b = c.self.inside in
    let s = layout_of b.counts b.queues.items in let past = past_of b.entries in let are =
    c.self.invariant.parts_are.pools in
    let here = rw (← c.self.view_is) at c.requires in
    pool_there s past b.pools c.args.pool c.pool_place.result are here c.pool_place.ensures

pub returns : goal.returns
returns c =
    let b = c.self.inside in
    let s = layout_of b.counts b.queues.items in let past = past_of b.entries in let are =
    c.self.invariant.parts_are.pools in
    let here = rw (← c.self.view_is) at c.requires in
    rw (← c.self.view_is)
    (c.runnable.ensures
    ∙ (ap (λ (l : PoolState). slots_runnable l.slots)
    (pool_found s past b.pools c.args.pool c.pool_place.result are here c.pool_place.ensures)
    ∙ runnables_are_runnable s past c.args.pool c.self.invariant.legal))
