use Rattle.std.proofs.Common.{length}
use Rattle.cmwq_chart.proofs.waits.+free_row.Given as goal

abbrev pub decreases-free_row : goal.decreases-free_row
decreases-free_row l = length l.rows.now
