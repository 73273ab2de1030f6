use Rattle.cmwq_views.proofs.standing.push_call.Goals as goal

pub returns-in-FlushItem-clause-exact : goal.returns-in-FlushItem-clause-exact
returns-in-FlushItem-clause-exact c =
    rw (c.in-FlushItem.is, ← c.into-in-FlushItem.ensures) c.push_figure-in-FlushItem.ensures.exact

pub returns-in-CancelSync-clause-exact : goal.returns-in-CancelSync-clause-exact
returns-in-CancelSync-clause-exact c =
    rw (c.in-CancelSync.is, ← c.into-in-CancelSync.ensures) c.push_figure-in-CancelSync.ensures.exact
