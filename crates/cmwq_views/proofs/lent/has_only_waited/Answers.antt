use Rattle.cmwq_model.specs.Prelude.{past_of}
use Rattle.cmwq_views.proofs.Unended.{unended_caller}
use Rattle.cmwq_views.proofs.lent.has_only_waited.Goals as goal

pub last-requires : goal.last-requires
last-requires c =
    rw (c.into.ensures)
    (unended_caller c.args.standing.now.layout (past_of c.args.standing.now.entries) c.args.ticket
    (rw (c.state.ensures.layout, c.state.ensures.entries) at c.len-entries.ensures.legal) c.requires)
