use Rattle.cmwq_state.specs.Common.{◌∙◌, ap, layout_of, past_of, next_task}
use Rattle.cmwq_state.proofs.Refine.{pool_found, pool_there}
use Rattle.cmwq_state.proofs.state.State.next_task.Goals as goal

pub next_task-requires : goal.next_task-requires
next_task-requires c =
    let b = c.self.inside in
    let s = layout_of b.counts b.queues.items in let past = past_of b.entries in let are =
    c.self.invariant.parts_are.pools in
    let here = rw (← c.self.view_is) at c.requires in
    pool_there s past b.pools c.args.pool c.pool_place.result are here c.pool_place.ensures

pub returns-clause-is : goal.returns-clause-is
returns-clause-is c =
    let b = c.self.inside in
    let s = layout_of b.counts b.queues.items in let past = past_of b.entries in let are =
    c.self.invariant.parts_are.pools in
    let here = rw (← c.self.view_is) at c.requires in
    rw (← c.self.view_is)
    (c.next_task.ensures
    ∙ ap next_task (pool_found s past b.pools c.args.pool c.pool_place.result are here c.pool_place.ensures))

pub returns-clause-legal : goal.returns-clause-legal
returns-clause-legal c = rw (← c.self.view_is) c.self.invariant.legal
