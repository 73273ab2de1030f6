use Rattle.cmwq_views.proofs.Last.{lasts_go_on}
use Rattle.cmwq_views.proofs.beginnings.Lasts.note.Goals as goal

pub returns : goal.returns
returns c many past is are =
    lasts_go_on c.args.first c.args.second many past c.args.entry.now c.args.self.now _
    (rw (c.key.ensures, is) at c.note.ensures) (rw (c.key-2.ensures, is) at c.note-2.ensures) are
