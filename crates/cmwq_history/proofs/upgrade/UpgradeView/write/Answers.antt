use Rattle.cmwq_history.proofs.Followed.{same_entries, write_ends}
use Rattle.cmwq_history.proofs.upgrade.UpgradeView.write.Goals as goal

pub returns-clause-ends : goal.returns-clause-ends
returns-clause-ends g c =
    let made = c.requires.made in
    let written =
    write_ends _ _ _ c.write_history.result c.write_history.ensures.ok c.write_history.ensures.err
    c.write_history.ensures.only in
    rw (← made.layout, ← same_entries c.args.kept.now.entries.items c.args.arg5.now.entries made.made_is)
    (rw (c.max.ensures, c.deref.ensures.value) at written)
