use Rattle.std.proofs.Common.{arith}
use Rattle.cmwq_pwq.proofs.RowSteps.{length-rows_from}
use Rattle.cmwq_pwq.proofs.rows.Rows.new.Goals as goal

pub returns : goal.returns
returns c = grind (arith, length-rows_from)
