use Rattle.std.specs.Prelude.{◌≡◌, None, Some, not}
use Rattle.std.proofs.Common.{ap, ◌∙◌, sym, subst}
use Rattle.std.proofs.lemmas.Option.{same_Some}
use Rattle.cmwq_core.specs.History.{is_done_waiting}
use Rattle.cmwq_dispatch.specs.Dispatched.{past_now}
use Rattle.cmwq_dispatch.specs.Waiting.{IsKnown}
use Rattle.cmwq_model.specs.declared.record.Ticket.{Ticket}
use Rattle.cmwq_board.proofs.Places.{done_is_ready}
use Rattle.cmwq_board.proofs.board.waits.planned_end.Goals as goal

pub returns-in-Done-clause-ready : goal.returns-in-Done-clause-ready
returns-in-Done-clause-ready c =
    let d = c.args.dispatch.now in
    sym (done_is_ready d.history c.args.ticket c.in-Done.plan c.in-Done.ensures.0 c.in-Done.ensures.1
    c.requires.held)

pub unreachable-requires : goal.unreachable-requires
unreachable-requires c =
    let bad : None ≡ Some c.args.ticket =
    sym c.in-Unknown.ensures ∙ c.requires.held in cc

pub returns-in-Waits-clause-ready : goal.returns-in-Waits-clause-ready
returns-in-Waits-clause-ready c =
    let past = past_now c.args.dispatch.now in
    let same : c.in-Waits.field-0 ≡ c.args.ticket =
    same_Some c.in-Waits.field-0 c.args.ticket
    (sym c.in-Waits.ensures.0 ∙ c.requires.held) in
    ap not (sym c.in-Waits.ensures.2) ∙ ap (is_done_waiting past) same

pub returns-in-Waits-clause-known : goal.returns-in-Waits-clause-known
returns-in-Waits-clause-known c none =
    let d = c.args.dispatch.now in
    let same : c.in-Waits.field-0 ≡ c.args.ticket =
    same_Some c.in-Waits.field-0 c.args.ticket
    (sym c.in-Waits.ensures.0 ∙ c.requires.held) in
    subst (λ (t : Ticket). IsKnown d.history.layout (past_now d) t) same c.in-Waits.ensures.1
