use Rattle.cmwq_core.specs.Common.{◌∙◌, sym, past_of, unended_tickets_fit}
use Rattle.cmwq_state.proofs.Ends.{found_unended}
use Rattle.cmwq_core.proofs.answers.end_answer.Goals as goal

pub waits_for-requires-clause-there : goal.waits_for-requires-clause-there
waits_for-requires-clause-there c = let b = c.args.state.now in
    unended_tickets_fit b.layout (past_of b.entries) c.in-Some.ticket c.ticket_of.ensures.legal
    (found_unended (past_of b.entries) c.args.who c.args.ticket c.in-Some.ticket
    (sym c.ticket_of.ensures.is ∙ c.in-Some.is))

pub waits_for-requires-clause-unended : goal.waits_for-requires-clause-unended
waits_for-requires-clause-unended c =
    found_unended _ c.args.who c.args.ticket c.in-Some.ticket (sym c.ticket_of.ensures.is ∙ c.in-Some.is)
