use Rattle.std.proofs.Common.{◌≡◌, ◌<◌, ◌∙◌, ap, sym, refl, subst, arith, length, not, true, Some}
use Rattle.cmwq_list.specs.Lists.{list_at}
use Rattle.cmwq_pool.specs.Common.{option_map}
use Rattle.cmwq_pool.specs.Slots.{slot_at, slot_is_idle, slots_run_item, slots_started}
use Rattle.cmwq_pool.specs.Pools.{pool_numbered}
use Rattle.cmwq_pool.specs.PoolState.{next_task}
use Rattle.cmwq_pool.specs.Upkeep.{noted_task, pools_seen}
use Rattle.cmwq_pool.proofs.Starting.{in_range}
use Rattle.cmwq_pool.proofs.Tasks.{found_has, some_first}
use Rattle.cmwq_pool.proofs.Seeing.{there, at_place, slots_at, placed, next_seen, item_started}
use Rattle.cmwq_pool.proofs.pools.Pools.start.Goals as goal

pub index_mut-workers-requires : goal.index_mut-workers-requires
index_mut-workers-requires c = grind (arith, there)

pub first_free-requires : goal.first_free-requires
first_free-requires c = grind (arith, there)

pub unwrap-item-requires : goal.unwrap-item-requires
unwrap-item-requires c = grind (arith, there, at_place, next_seen, some_first)

pub remove-requires : goal.remove-requires
remove-requires c =
    let s = c.self.inside in
    let slots = c.index_mut-workers.result.now in
    let here =
    found_has (λ i. not (slots_run_item slots i)) (list_at s.lists.lists c.args.pool) c.unwrap-item.result
    (sym c.first_free.ensures.first ∙ c.unwrap-item.ensures) in
    c.first_free.ensures.once.known c.unwrap-item.result c.args.pool here

pub task_of-requires-clause-item : goal.task_of-requires-clause-item
task_of-requires-clause-item c =
    let s = c.self.inside in
    let slots = c.index_mut-workers.result.now in
    let here =
    found_has (λ i. not (slots_run_item slots i)) (list_at s.lists.lists c.args.pool) c.unwrap-item.result
    (sym c.first_free.ensures.first ∙ c.unwrap-item.ensures) in
    let known = c.first_free.ensures.once.known c.unwrap-item.result c.args.pool here in
    omega (arith, known, c.self.invariant.noted)

pub start-requires : goal.start-requires
start-requires c =
    let s = c.self.inside in
    let low : c.args.pool < length s.workers.items =
    there s.lists s.notes s.workers.items c.args.self.now c.args.pool c.self.view_is c.requires.pool in
    let same =
    slots_at s.lists s.notes s.workers.items c.args.self.now c.args.pool c.from.result
    c.index_mut-workers.result.now c.self.view_is low c.from.ensures c.index_mut-workers.ensures.value in
    in_range slot_is_idle c.index_mut-workers.result.now c.args.worker refl
    (subst (λ slots. slot_is_idle (slot_at slots c.args.worker) ≡ true) same c.requires.idle)

pub returns-clause-started : goal.returns-clause-started
returns-clause-started c =
    let s = c.self.inside in
    let low : c.args.pool < length s.workers.items =
    there s.lists s.notes s.workers.items c.args.self.now c.args.pool c.self.view_is c.requires.pool in
    let slots = c.index_mut-workers.result.now in
    let item = c.unwrap-item.result in
    let is = at_place s.workers.items c.args.pool c.from.result slots low c.from.ensures
    c.index_mut-workers.ensures.value in
    let first = c.first_free.ensures.first in
    let next : next_task (pool_numbered (pools_seen s.lists s.notes s.workers.items) c.args.pool)
    ≡ Some (noted_task s.notes item) = next_seen s.lists s.notes s.workers.items c.args.pool low slots is
    ∙ ap (option_map (noted_task s.notes)) (sym first ∙ c.unwrap-item.ensures) in
    let here =
    found_has (λ i. not (slots_run_item slots i)) (list_at s.lists.lists c.args.pool) item
    (sym first ∙ c.unwrap-item.ensures) in
    let made = c.start.ensures.started ∙ ap (slots_started slots c.args.worker) c.task_of.ensures in
    let written =
    placed s.workers.items c.args.pool c.from.result slots c.start.new.self
    (λ old. slots_started old c.args.worker (noted_task s.notes item)) low c.from.ensures
    c.index_mut-workers.ensures.value made in
    rw (← c.self.view_is, next, c.remove.ensures.rest)
    (item_started s.lists s.notes s.workers.items c.args.pool low c.args.worker item _ c.self.invariant.many
    c.first_free.ensures.once here written)

pub returns-clause-enlisted : goal.returns-clause-enlisted
returns-clause-enlisted c = grind (arith, there, slots_at)
