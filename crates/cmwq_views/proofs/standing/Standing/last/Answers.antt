use Rattle.std.proofs.Common.{◌∙◌}
use Rattle.cmwq_model.specs.Prelude.{past_of}
use Rattle.cmwq_views.proofs.Last.{last_is}
use Rattle.cmwq_views.proofs.standing.Standing.last.Goals as goal

pub returns : goal.returns
returns c =
    let b = c.self.inside in
    rw (← c.self.view_is)
    (c.last.ensures
    ∙ last_is b.state.now.layout (past_of b.state.now.entries) b.beginnings.now c.args.deed c.args.row
    c.self.invariant.1 (rw (← c.self.view_is) at c.requires))
