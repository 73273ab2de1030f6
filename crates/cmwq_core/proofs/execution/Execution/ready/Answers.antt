use Rattle.cmwq_core.specs.Common.{◌∙◌, sym, past_of, unended_tickets_fit}
use Rattle.cmwq_core.proofs.Marked.{numbered_unended}
use Rattle.cmwq_core.proofs.execution.Execution.ready.Goals as goal

pub waits_for-requires-clause-there : goal.waits_for-requires-clause-there
waits_for-requires-clause-there c = let h = c.self.inside.state in
    unended_tickets_fit h.layout (past_of h.entries) c.in-Some.ticket c.ticket.ensures.legal
    (numbered_unended (past_of h.entries) c.args.ticket c.in-Some.ticket (sym c.ticket.ensures.is ∙ c.in-Some.is))

pub waits_for-requires-clause-unended : goal.waits_for-requires-clause-unended
waits_for-requires-clause-unended c =
    numbered_unended (past_of c.self.inside.state.entries) c.args.ticket c.in-Some.ticket
    (sym c.ticket.ensures.is ∙ c.in-Some.is)
