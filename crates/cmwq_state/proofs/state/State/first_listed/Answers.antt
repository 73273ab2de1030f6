use Rattle.cmwq_state.specs.Common.{◌∙◌, ap, layout_of, past_of, slice_get, sym, PoolState}
use Rattle.cmwq_state.proofs.Refine.{pool_found, pool_there}
use Rattle.cmwq_state.proofs.Listed.{listed_open, none_listed}
use Rattle.cmwq_state.proofs.state.State.first_listed.Goals as goal

pub first-requires : goal.first-requires
first-requires c =
    let b = c.self.inside in
    let s = layout_of b.counts b.queues.items in let past = past_of b.entries in let are =
    c.self.invariant.parts_are.pools in
    let here = rw (← c.self.view_is) at c.requires in
    pool_there s past b.pools c.args.pool c.pool_place.result are here c.pool_place.ensures

pub unstarted-requires : goal.unstarted-requires
unstarted-requires c =
    let b = c.self.inside in
    let s = layout_of b.counts b.queues.items in let past = past_of b.entries in let are =
    c.self.invariant.parts_are.pools in
    let here = rw (← c.self.view_is) at c.requires in
    let pool = pool_found s past b.pools c.args.pool c.pool_place.result are here c.pool_place.ensures in
    let first = sym (c.first.ensures ∙ ap (λ (l : PoolState). slice_get l.listed 0) pool) ∙ c.in-Some.is in
    rw (← c.self.view_is) (listed_open s past c.args.pool 0 c.in-Some.task c.self.invariant.legal first).item

pub returns-in-Some : goal.returns-in-Some
returns-in-Some c =
    let b = c.self.inside in
    let s = layout_of b.counts b.queues.items in let past = past_of b.entries in let are =
    c.self.invariant.parts_are.pools in
    let here = rw (← c.self.view_is) at c.requires in
    let pool = pool_found s past b.pools c.args.pool c.pool_place.result are here c.pool_place.ensures in
    let first = sym (c.first.ensures ∙ ap (λ (l : PoolState). slice_get l.listed 0) pool) ∙ c.in-Some.is in
    c.unstarted.ensures
    ∙ (rw (← c.self.view_is) (listed_open s past c.args.pool 0 c.in-Some.task c.self.invariant.legal first).is)

pub returns-in-None : goal.returns-in-None
returns-in-None c =
    let b = c.self.inside in
    let s = layout_of b.counts b.queues.items in let past = past_of b.entries in let are =
    c.self.invariant.parts_are.pools in
    let here = rw (← c.self.view_is) at c.requires in
    let pool = pool_found s past b.pools c.args.pool c.pool_place.result are here c.pool_place.ensures in
    let first = sym (c.first.ensures ∙ ap (λ (l : PoolState). slice_get l.listed 0) pool) ∙ c.in-None.is in
    rw (← c.self.view_is) (none_listed s past c.args.pool 0 first)
