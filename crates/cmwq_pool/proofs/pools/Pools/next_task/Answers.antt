use Rattle.std.proofs.Common.{◌<◌, ◌∙◌, ap, sym, arith, length, not, Some}
use Rattle.cmwq_list.specs.Lists.{list_at}
use Rattle.cmwq_pool.specs.Common.{option_map}
use Rattle.cmwq_pool.specs.Slots.{slots_run_item}
use Rattle.cmwq_pool.specs.Pools.{pool_numbered}
use Rattle.cmwq_pool.specs.PoolState.{next_task}
use Rattle.cmwq_pool.specs.Upkeep.{noted_task}
use Rattle.cmwq_pool.proofs.Tasks.{found_has}
use Rattle.cmwq_pool.proofs.Seeing.{there, at_place, next_seen}
use Rattle.cmwq_pool.proofs.pools.Pools.next_task.Goals as goal

pub index-workers-requires : goal.index-workers-requires
index-workers-requires c = grind (arith, there)

pub first_free-requires : goal.first_free-requires
first_free-requires c = grind (arith, there)

pub returns-in_err-item : goal.returns-in_err-item
returns-in_err-item c = grind (arith, there, at_place, next_seen)

pub task_of-requires-clause-item : goal.task_of-requires-clause-item
task_of-requires-clause-item c =
    let s = c.self.inside in
    let slots = c.index-workers.result.now in
    let here =
    found_has (λ i. not (slots_run_item slots i)) (list_at s.lists.lists c.args.pool) c.in_ok-item.item
    (sym c.first_free.ensures.first ∙ c.in_ok-item.was) in
    let known = c.first_free.ensures.once.known c.in_ok-item.item c.args.pool here in
    omega (arith, known, c.self.invariant.noted)

pub returns : goal.returns
returns c =
    let s = c.self.inside in
    let low : c.args.pool < length s.workers.items =
    there s.lists s.notes s.workers.items c.args.self.now c.args.pool c.self.view_is c.requires in
    let slots = c.index-workers.result.now in
    let is = at_place s.workers.items c.args.pool c.from.result slots low c.from.ensures c.index-workers.ensures in
    let first = c.first_free.ensures.first in
    ap (λ t. Some t) c.task_of.ensures
    ∙ sym (ap (λ ps. next_task (pool_numbered ps c.args.pool)) (sym c.self.view_is)
    ∙ (next_seen s.lists s.notes s.workers.items c.args.pool low slots is
    ∙ ap (option_map (noted_task s.notes)) (sym first ∙ c.in_ok-item.was)))
