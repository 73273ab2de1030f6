use Rattle.cmwq_state.specs.Common.{◌∙◌, ap, layout_of, past_of, PoolState, slots_enlisted_by, starts_enlist_alike}
use Rattle.cmwq_state.proofs.Refine.{pool_found, pool_there}
use Rattle.cmwq_state.proofs.state.State.enlisted_by.Goals as goal

pub would_enlist-requires : goal.would_enlist-requires
would_enlist-requires c =
    let b = c.self.inside in
    let s = layout_of b.counts b.queues.items in let past = past_of b.entries in let are =
    c.self.invariant.parts_are.pools in
    let here = rw (← c.self.view_is) at c.requires.0 in
    pool_there s past b.pools c.args.worker.pool c.pool_place.result are here c.pool_place.ensures

pub returns : goal.returns
returns c =
    let b = c.self.inside in
    let s = layout_of b.counts b.queues.items in let past = past_of b.entries in let are =
    c.self.invariant.parts_are.pools in
    let here = rw (← c.self.view_is) at c.requires.0 in
    rw (← c.self.view_is)
    (c.would_enlist.ensures
    ∙ (ap (λ (l : PoolState). slots_enlisted_by l.slots c.args.worker.index)
    (pool_found s past b.pools c.args.worker.pool c.pool_place.result are here c.pool_place.ensures)
    ∙ starts_enlist_alike s past c.args.worker c.self.invariant.legal))
