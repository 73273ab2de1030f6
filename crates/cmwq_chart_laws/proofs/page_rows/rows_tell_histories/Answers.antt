use Rattle.cmwq_chart_laws.proofs.Paged.{rows_tell_histories}
use Rattle.cmwq_chart_laws.proofs.page_rows.rows_tell_histories.Goals as goal

pub returns : goal.returns
returns c = rows_tell_histories
