use Rattle.cmwq_history.proofs.Followed.{same_entries}
use Rattle.cmwq_views.proofs.history_page.HistoryPageView.write.Goals as goal

pub write_history_page-requires : goal.write_history_page-requires
write_history_page-requires g c = let made = c.requires.made in rw (made.layout, made.made_is.entries) made.made_is

pub returns-clause-ends : goal.returns-clause-ends
returns-clause-ends g c =
    let made = c.requires.made in
    rw (← made.layout, ← same_entries c.args.seen.now.entries.items c.args.arg5.now.entries made.made_is.entries)
    c.write_history_page.ensures.ends
