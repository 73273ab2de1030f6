use Rattle.std.proofs.Common.{arith}
use Rattle.cmwq_pool.proofs.Seeing.{there, slots_at}
use Rattle.cmwq_pool.proofs.pools.Pools.workers.Goals as goal

pub index-requires : goal.index-requires
index-requires c = grind (arith, there)

pub returns : goal.returns
returns c = grind (arith, there, slots_at)
