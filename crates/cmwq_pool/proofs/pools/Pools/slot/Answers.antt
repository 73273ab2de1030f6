use Rattle.std.proofs.Common.{arith}
use Rattle.cmwq_pool.proofs.Seeing.{there, slots_at}
use Rattle.cmwq_pool.proofs.pools.Pools.slot.Goals as goal

pub index-requires : goal.index-requires
index-requires c = grind (arith, there)

pub slot-requires : goal.slot-requires
slot-requires c = grind (arith, there, slots_at)

pub returns : goal.returns
returns c = grind (arith, there, slots_at)
