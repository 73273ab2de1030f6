use Rattle.cmwq_output_laws.proofs.RowsApart.{waits_of_a_row_are_apart}
use Rattle.cmwq_output_laws.proofs.waits.waits_of_a_row_are_apart.Goals as goal

pub returns : goal.returns
returns c = waits_of_a_row_are_apart
