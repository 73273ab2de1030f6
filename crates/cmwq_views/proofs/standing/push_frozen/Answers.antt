use Rattle.cmwq_views.proofs.standing.push_frozen.Goals as goal

pub returns-then-frozen-clause-exact : goal.returns-then-frozen-clause-exact
returns-then-frozen-clause-exact c = rw c.if-frozen.true (rw c.into.ensures at c.push_figure.ensures.exact)
