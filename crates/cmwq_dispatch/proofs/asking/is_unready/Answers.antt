use Rattle.std.proofs.Common.{◌∙◌, ap, sym}
use Rattle.cmwq_core.specs.Common.{is_some, past_of, unended_tickets_fit, waits_for}
use Rattle.cmwq_core.specs.History.{History, past_in}
use Rattle.cmwq_model.specs.Prelude.{ticket_of}
use Rattle.cmwq_model.specs.declared.id.Who.TheVariants.{Caller}
use Rattle.cmwq_state.proofs.Ends.{found_unended}
use Rattle.cmwq_dispatch.proofs.Asked.{found_unready}
use Rattle.cmwq_dispatch.proofs.asking.is_unready.Goals as goal

pub waits_for-requires-clause-there : goal.waits_for-requires-clause-there
waits_for-requires-clause-there c = let h = c.state-state.result.now in
    unended_tickets_fit h.layout (past_of h.entries) c.in-Some.found c.ticket_of.ensures.legal
    (found_unended (past_of h.entries) (Caller c.args.ticket.now.caller) c.args.ticket.now.number c.in-Some.found
    (sym c.ticket_of.ensures.is ∙ c.in-Some.is))

pub waits_for-requires-clause-unended : goal.waits_for-requires-clause-unended
waits_for-requires-clause-unended c =
    found_unended (past_of c.state-state.result.now.entries) (Caller c.args.ticket.now.caller) c.args.ticket.now.number
    c.in-Some.found (sym c.ticket_of.ensures.is ∙ c.in-Some.is)

pub returns-in-Some : goal.returns-in-Some
returns-in-Some c waits =
    found_unready (past_in c.args.execution.now) (Caller c.args.ticket.now.caller) c.args.ticket.now c.in-Some.found
    c.requires.call
    (sym (c.ticket_of.ensures.is
    ∙ ap (λ (h : History). ticket_of (past_in h) (Caller c.args.ticket.now.caller) c.args.ticket.now.number)
    c.state-state.ensures) ∙ c.in-Some.is)
    (sym (c.is_some.ensures ∙ ap is_some (c.waits_for.ensures
    ∙ ap (λ (h : History). waits_for (past_in h) c.in-Some.found.number c.in-Some.found.call) c.state-state.ensures))
    ∙ waits)
