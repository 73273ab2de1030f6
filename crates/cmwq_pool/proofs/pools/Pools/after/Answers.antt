use Rattle.std.proofs.Common.{◌≡◌, ◌+◌, ◌<◌, ◌∙◌, ap, arith, length, sym}
use Rattle.std.specs.Prelude.{slice_get}
use Rattle.cmwq_pool.specs.PoolState.{PoolState}
use Rattle.cmwq_pool.specs.Pools.{pool_numbered}
use Rattle.cmwq_pool.specs.Upkeep.{pool_seen}
use Rattle.cmwq_pool.proofs.Seeing.{there, seen_at}
use Rattle.cmwq_list.specs.Lists.{list_at}
use Rattle.cmwq_pool.proofs.Tasks.{listed_item}
use Rattle.cmwq_pool.proofs.pools.Pools.after.Goals as goal

pub task_after-requires-clause-list : goal.task_after-requires-clause-list
task_after-requires-clause-list c = grind (arith, there)

pub task_after-requires-clause-item : goal.task_after-requires-clause-item
task_after-requires-clause-item c =
    let s = c.self.inside in
    let low : c.args.pool < length s.workers.items =
    there s.lists s.notes s.workers.items c.args.self.now c.args.pool c.self.view_is c.requires.pool in
    let seen : pool_numbered c.args.self.now c.args.pool ≡ pool_seen s.lists s.notes s.workers.items c.args.pool =
    ap (λ ps. pool_numbered ps c.args.pool) (sym c.self.view_is)
    ∙ seen_at s.lists s.notes s.workers.items c.args.pool low in
    omega (arith, c.requires.item, ap (λ (l : PoolState). l.items) seen, c.from.ensures)

pub returns-clause-next : goal.returns-clause-next
returns-clause-next c = λ k task stands item.
    let s = c.self.inside in
    let low : c.args.pool < length s.workers.items =
    there s.lists s.notes s.workers.items c.args.self.now c.args.pool c.self.view_is c.requires.pool in
    let seen : pool_numbered c.args.self.now c.args.pool ≡ pool_seen s.lists s.notes s.workers.items c.args.pool =
    ap (λ ps. pool_numbered ps c.args.pool) (sym c.self.view_is)
    ∙ seen_at s.lists s.notes s.workers.items c.args.pool low in
    let here =
    listed_item s.notes (list_at s.lists.lists c.args.pool) k c.args.item.0 task (rw seen at stands) item in
    c.task_after.ensures.next k (rw c.from.ensures here)
    ∙ sym (ap (λ (l : PoolState). slice_get l.listed (k + 1)) seen)

pub returns-clause-known : goal.returns-clause-known
returns-clause-known c =
    let s = c.self.inside in
    let low : c.args.pool < length s.workers.items =
    there s.lists s.notes s.workers.items c.args.self.now c.args.pool c.self.view_is c.requires.pool in
    let seen : pool_numbered c.args.self.now c.args.pool ≡ pool_seen s.lists s.notes s.workers.items c.args.pool =
    ap (λ ps. pool_numbered ps c.args.pool) (sym c.self.view_is)
    ∙ seen_at s.lists s.notes s.workers.items c.args.pool low in
    rw seen c.task_after.ensures.known
