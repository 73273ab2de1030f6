use Rattle.cmwq_state.specs.Common.{◌∙◌, ap, layout_of, past_of, nexts_are_next}
use Rattle.cmwq_pool.specs.PoolState.{next_number}
use Rattle.cmwq_state.proofs.Refine.{pool_found, pool_there}
use Rattle.cmwq_state.proofs.state.State.next.Goals as goal

pub next-requires : goal.next-requires
next-requires c =
    let b = c.self.inside in
    let s = layout_of b.counts b.queues.items in let past = past_of b.entries in let are =
    c.self.invariant.parts_are.pools in
    let here = rw (← c.self.view_is) at c.requires in
    pool_there s past b.pools c.args.pool c.pool_place.result are here c.pool_place.ensures

pub returns : goal.returns
returns c =
    let b = c.self.inside in
    let s = layout_of b.counts b.queues.items in let past = past_of b.entries in let are =
    c.self.invariant.parts_are.pools in
    let here = rw (← c.self.view_is) at c.requires in
    rw (← c.self.view_is)
    (c.next.ensures
    ∙ (ap next_number (pool_found s past b.pools c.args.pool c.pool_place.result are here c.pool_place.ensures)
    ∙ nexts_are_next s past c.args.pool c.self.invariant.legal))
