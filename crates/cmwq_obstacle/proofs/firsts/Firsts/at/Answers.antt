use Rattle.std.proofs.Common.{ap, sym, subst, ◌∙◌}
use Rattle.cmwq_model.proofs.Limits.{limits_of}
use Rattle.cmwq_model.specs.Prelude.{is_layout, past_of}
use Rattle.cmwq_obstacle.specs.Firsts.{AreFirsts}
use Rattle.cmwq_obstacle.specs.Obstacles.{is_listed_there}
use Rattle.cmwq_obstacle.proofs.FirstItems.{found_below, row_is}
use Rattle.cmwq_obstacle.proofs.firsts.Firsts.at.Goals as goal

pub returns-clause-there : goal.returns-clause-there
returns-clause-there c =
    let s = c.args.state.now.layout in
    let past = past_of c.args.state.now.entries in
    let limits = limits_of s (ap is_layout (sym c.requires.shape) ∙ c.counts-counts.ensures.limits) in
    found_below (is_listed_there s past c.args.place) s.items c.index.result.now
    (row_is s past c.self.inside.rows.items c.args.place c.row_of.result c.index.result.now limits.cpus.1
    (subst (AreFirsts s past) (sym c.self.view_is) c.requires.firsts) c.requires.place c.row_of.ensures
    c.index.ensures)
