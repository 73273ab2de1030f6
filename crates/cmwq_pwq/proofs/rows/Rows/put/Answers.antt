use Rattle.std.proofs.Common.{arith}
use Rattle.cmwq_pwq.proofs.RowSteps.{row_within, rows_put}
use Rattle.cmwq_pwq.proofs.rows.Rows.put.Goals as goal

pub index_mut-requires : goal.index_mut-requires
index_mut-requires c = grind (arith, row_within, c.args.queueing.item.0)

pub index_mut-requires-2 : goal.index_mut-requires-2
index_mut-requires-2 c = grind (arith, row_within, c.args.queueing.item.0)

pub returns : goal.returns
returns c = grind (arith, row_within, rows_put, c.args.queueing.item.0)
