use Rattle.std.proofs.lemmas.List.{length-set}
use Rattle.cmwq_pool.proofs.Starting.{enlisted_by-in_range}
use Rattle.cmwq_pool.proofs.pool_workers.PoolWorkers.start.Goals as goal

pub enlist-requires : goal.enlist-requires
enlist-requires c =
    rw (c.would_enlist-enlisted.ensures, c.put.ensures, length-set) (enlisted_by-in_range c.args.self.now c.args.worker)
