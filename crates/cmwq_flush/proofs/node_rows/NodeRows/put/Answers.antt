use Rattle.std.proofs.Common.{arith}
use Rattle.cmwq_flush.proofs.NodeRowSteps.{node_put, node_within}
use Rattle.cmwq_flush.proofs.node_rows.NodeRows.put.Goals as goal

pub index_mut-requires : goal.index_mut-requires
index_mut-requires c = grind (arith, node_within)

pub index_mut-requires-2 : goal.index_mut-requires-2
index_mut-requires-2 c = grind (arith, node_within)

pub returns : goal.returns
returns c = grind (arith, node_within, node_put)
