use Rattle.std.proofs.Common.{length}
use Rattle.cmwq_chart.proofs.waits.+ticket_row.Given as goal

abbrev pub decreases-ticket_row : goal.decreases-ticket_row
decreases-ticket_row l = length l.rows.now
