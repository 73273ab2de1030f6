use Rattle.cmwq_history.proofs.Followed.{write_ends}
use Rattle.cmwq_views.proofs.Figured.{summary_is}
use Rattle.cmwq_views.proofs.summary.PageView.write.Goals as goal

pub new-progress-requires : goal.new-progress-requires
new-progress-requires g c = summary_is c.args.judge.now c.args.figures.now.summary c.requires.made.made_is

pub returns-clause-ends : goal.returns-clause-ends
returns-clause-ends g c =
    rw (← c.new-progress.ensures)
    (write_ends _ _ _ c.write_page.result c.write_page.ensures.ok c.write_page.ensures.err c.write_page.ensures.only)
