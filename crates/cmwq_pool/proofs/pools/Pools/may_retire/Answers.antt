use Rattle.std.proofs.Common.{arith}
use Rattle.cmwq_pool.proofs.Seeing.{there, slots_at}
use Rattle.cmwq_pool.proofs.pools.Pools.may_retire.Goals as goal

pub index-requires : goal.index-requires
index-requires c = grind (arith, there)

pub may_retire-requires : goal.may_retire-requires
may_retire-requires c = grind (arith, there, slots_at)

pub returns : goal.returns
returns c = grind (arith, there, slots_at)
