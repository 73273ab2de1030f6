use Rattle.cmwq_flush.specs.Common.{arith}
use Rattle.cmwq_flush.proofs.NodeRowSteps.{length-rows_from}
use Rattle.cmwq_flush.proofs.node_rows.NodeRows.copy_from.Goals as goal

pub copy_from_slice-requires : goal.copy_from_slice-requires
copy_from_slice-requires c = grind (arith, length-rows_from)

pub copy_from_slice-requires-2 : goal.copy_from_slice-requires-2
copy_from_slice-requires-2 c = grind (arith, length-rows_from)
