use Rattle.std.proofs.Common.{◌∙◌, sym}
use Rattle.cmwq_model.specs.Prelude.{past_of}
use Rattle.cmwq_refinement.proofs.PlacesFit.{unended_tickets_fit}
use Rattle.cmwq_awaited.proofs.Awaiting.{is_unended}
use Rattle.cmwq_awaited.proofs.waits.waited_for.Goals as goal

pub waits_for-requires-clause-unended : goal.waits_for-requires-clause-unended
waits_for-requires-clause-unended c =
    is_unended (past_of c.args.state.now.entries) c.args.ticket c.in-Some.ticket
    (sym c.ticket.ensures.is ∙ c.in-Some.is)

pub waits_for-requires-clause-there : goal.waits_for-requires-clause-there
waits_for-requires-clause-there c =
    unended_tickets_fit c.args.state.now.layout (past_of c.args.state.now.entries) c.in-Some.ticket
    c.ticket.ensures.legal (waits_for-requires-clause-unended c)
