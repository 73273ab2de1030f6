use Rattle.std.proofs.Common.{arith}
use Rattle.cmwq_flush.proofs.NodeRowSteps.{length-rows_from}
use Rattle.cmwq_flush.proofs.node_rows.NodeRows.new.Goals as goal

pub returns : goal.returns
returns c = grind (arith, length-rows_from)
