use Rattle.cmwq_publish.specs.Common.{◌≤◌, List, length, ap, subst, IsPrefix, Entry}
use Rattle.cmwq_publish.proofs.Beginnings.{shorter_begins}
use Rattle.cmwq_publish.proofs.prefix.Prefix.begins.Goals as goal

pub returns : goal.returns
returns g c =
    let both = c.learn.new.self.log in
    let this : IsPrefix c.self.inside.seen.log both =
    subst (λ (l : List Entry). IsPrefix l both) (ap (λ s. s.log) c.again-both.ensures) c.learn.ensures.2 in
    let less : length c.self.inside.seen.log ≤ length c.other.inside.seen.log =
    rw (c.self.view_is, c.other.view_is) c.requires in
    rw (← c.self.view_is, ← c.other.view_is)
    (shorter_begins c.self.inside.seen.log c.other.inside.seen.log both this c.learn.ensures.3 less)
