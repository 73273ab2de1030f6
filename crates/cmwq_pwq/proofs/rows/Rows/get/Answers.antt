use Rattle.std.proofs.Common.{arith}
use Rattle.std.proofs.lemmas.Option.{slice_get-get_or, slice_get_past}
use Rattle.cmwq_pwq.proofs.RowSteps.{length-rows_from}
use Rattle.cmwq_pwq.proofs.rows.Rows.get.Goals as goal

pub at-requires : goal.at-requires
at-requires c = grind (arith, length-rows_from)

pub returns-then-item-len : goal.returns-then-item-len
returns-then-item-len c = grind (arith, length-rows_from, slice_get-get_or)

pub returns-else-item-len : goal.returns-else-item-len
returns-else-item-len c = grind (arith, slice_get_past, length-rows_from)
