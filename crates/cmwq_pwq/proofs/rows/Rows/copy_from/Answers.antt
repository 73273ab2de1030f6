use Rattle.std.proofs.Common.{arith}
use Rattle.cmwq_pwq.proofs.RowSteps.{length-rows_from}
use Rattle.cmwq_pwq.proofs.rows.Rows.copy_from.Goals as goal

pub copy_from_slice-requires : goal.copy_from_slice-requires
copy_from_slice-requires c = grind (arith, length-rows_from)

pub copy_from_slice-requires-2 : goal.copy_from_slice-requires-2
copy_from_slice-requires-2 c = grind (arith, length-rows_from)
