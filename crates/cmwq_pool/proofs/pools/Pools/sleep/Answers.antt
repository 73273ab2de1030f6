use Rattle.std.proofs.Common.{◌≡◌, ◌<◌, refl, subst, arith, length, true}
use Rattle.cmwq_pool.specs.Slots.{slot_at, slot_runs_awake, slot_asleep, with_slot}
use Rattle.cmwq_pool.proofs.Starting.{in_range}
use Rattle.cmwq_pool.proofs.Seeing.{there, slots_at, slots_changed, placed}
use Rattle.cmwq_pool.proofs.pools.Pools.sleep.Goals as goal

pub index_mut-requires : goal.index_mut-requires
index_mut-requires c = grind (arith, there)

pub sleep-requires : goal.sleep-requires
sleep-requires c =
    let s = c.self.inside in
    let low : c.args.pool < length s.workers.items =
    there s.lists s.notes s.workers.items c.args.self.now c.args.pool c.self.view_is c.requires.pool in
    let same =
    slots_at s.lists s.notes s.workers.items c.args.self.now c.args.pool c.from.result c.index_mut.result.now
    c.self.view_is low c.from.ensures c.index_mut.ensures.value in
    let h = subst (λ slots. slot_runs_awake (slot_at slots c.args.worker) ≡ true) same c.requires.awake in
    in_range slot_runs_awake c.index_mut.result.now c.args.worker refl h

pub returns : goal.returns
returns c =
    let s = c.self.inside in
    let low : c.args.pool < length s.workers.items =
    there s.lists s.notes s.workers.items c.args.self.now c.args.pool c.self.view_is c.requires.pool in
    rw (← c.self.view_is)
    (slots_changed s.lists s.notes s.workers.items c.args.pool low (with_slot slot_asleep c.args.worker) _
    (placed s.workers.items c.args.pool c.from.result c.index_mut.result.now c.sleep.new.self
    (with_slot slot_asleep c.args.worker) low c.from.ensures c.index_mut.ensures.value c.sleep.ensures))
