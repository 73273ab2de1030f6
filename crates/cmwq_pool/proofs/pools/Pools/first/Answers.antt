use Rattle.std.proofs.Common.{◌≡◌, ◌<◌, ◌∙◌, ap, arith, length, sym}
use Rattle.std.specs.Prelude.{slice_get}
use Rattle.cmwq_pool.specs.PoolState.{PoolState}
use Rattle.cmwq_pool.specs.Pools.{pool_numbered}
use Rattle.cmwq_pool.specs.Upkeep.{pool_seen}
use Rattle.cmwq_pool.proofs.Seeing.{there, seen_at}
use Rattle.cmwq_pool.proofs.pools.Pools.first.Goals as goal

pub first_task-requires-clause-list : goal.first_task-requires-clause-list
first_task-requires-clause-list c = grind (arith, there)

pub returns : goal.returns
returns c =
    let s = c.self.inside in
    let low : c.args.pool < length s.workers.items =
    there s.lists s.notes s.workers.items c.args.self.now c.args.pool c.self.view_is c.requires in
    let seen : pool_numbered c.args.self.now c.args.pool ≡ pool_seen s.lists s.notes s.workers.items c.args.pool =
    ap (λ ps. pool_numbered ps c.args.pool) (sym c.self.view_is)
    ∙ seen_at s.lists s.notes s.workers.items c.args.pool low in
    c.first_task.ensures ∙ sym (ap (λ (l : PoolState). slice_get l.listed 0) seen)
