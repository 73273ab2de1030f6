use Rattle.cmwq_chart_laws.proofs.Marked.{replies_are_marked}
use Rattle.cmwq_chart_laws.proofs.marks.replies_are_marked.Goals as goal

pub returns : goal.returns
returns c = replies_are_marked
