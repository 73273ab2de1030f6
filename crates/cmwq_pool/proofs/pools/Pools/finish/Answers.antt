use Rattle.std.proofs.Common.{◌<◌, arith, length}
use Rattle.cmwq_pool.specs.Slots.{slot_free, with_slot}
use Rattle.cmwq_pool.proofs.Seeing.{there, slots_at, slots_changed, placed}
use Rattle.cmwq_pool.proofs.pools.Pools.finish.Goals as goal

pub index_mut-requires : goal.index_mut-requires
index_mut-requires c = grind (arith, there)

pub finish-task-requires : goal.finish-task-requires
finish-task-requires c = grind (arith, there, slots_at)

pub returns-clause-free : goal.returns-clause-free
returns-clause-free c =
    let s = c.self.inside in
    let low : c.args.pool < length s.workers.items =
    there s.lists s.notes s.workers.items c.args.self.now c.args.pool c.self.view_is c.requires.pool in
    rw (← c.self.view_is)
    (slots_changed s.lists s.notes s.workers.items c.args.pool low (with_slot slot_free c.args.worker) _
    (placed s.workers.items c.args.pool c.from.result c.index_mut.result.now c.finish-task.new.self
    (with_slot slot_free c.args.worker) low c.from.ensures c.index_mut.ensures.value c.finish-task.ensures.free))

pub returns-clause-number : goal.returns-clause-number
returns-clause-number c = grind (arith, there, slots_at)
