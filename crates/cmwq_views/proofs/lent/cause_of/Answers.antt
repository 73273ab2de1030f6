use Rattle.cmwq_model.specs.Prelude.{past_of}
use Rattle.cmwq_refinement.proofs.PlacesFit.{unended_tickets_fit}
use Rattle.cmwq_views.proofs.lent.cause_of.Goals as goal

pub waits_for-requires-clause-there : goal.waits_for-requires-clause-there
waits_for-requires-clause-there c =
    let state = c.state-state.result.now in
    unended_tickets_fit state.layout (past_of state.entries) c.args.ticket c.len-entries.ensures.legal
    (rw (← c.state-state.ensures.entries) at c.requires)
