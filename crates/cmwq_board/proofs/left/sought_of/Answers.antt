use Rattle.std.specs.Prelude.{find}
use Rattle.std.proofs.Common.{ap, arith, ◌∙◌, sym}
use Rattle.std.proofs.lemmas.Option.{slice_get_within}
use Rattle.cmwq_core.specs.Common.{unended_tickets_fit}
use Rattle.cmwq_model.specs.Prelude.{past_of, unended_tickets}
use Rattle.cmwq_refinement.specs.Tickets.{tickets_held}
use Rattle.cmwq_board.specs.Left.{is_sought}
use Rattle.cmwq_board.proofs.Sought.{drop_none, find_first, find_next, held_few, held_unended}
use Rattle.cmwq_board.proofs.left.sought_of.Goals as goal

pub is_sought-requires-clause-unended : goal.is_sought-requires-clause-unended
is_sought-requires-clause-unended c =
    held_unended (past_of c.args.state.now.entries) c.args.caller.0 c.loop-ticket.index c.in-Some.ticket
    (sym c.unended.ensures ∙ c.in-Some.is)

pub is_sought-requires-clause-there : goal.is_sought-requires-clause-there
is_sought-requires-clause-there c =
    unended_tickets_fit c.args.state.now.layout (past_of c.args.state.now.entries) c.in-Some.ticket c.requires.legal
    (held_unended (past_of c.args.state.now.entries) c.args.caller.0 c.loop-ticket.index c.in-Some.ticket
    (sym c.unended.ensures ∙ c.in-Some.is))

pub returns-then-is_sought : goal.returns-then-is_sought
returns-then-is_sought c =
    let past = past_of c.args.state.now.entries in
    sym (c.loop-ticket.invariant.1
    ∙ find_first (is_sought c.args.state.now.layout past c.args.lending c.args.sought)
    (tickets_held (unended_tickets past) c.args.caller.0) c.loop-ticket.index c.in-Some.ticket
    (sym c.unended.ensures ∙ c.in-Some.is) (sym c.is_sought.ensures ∙ c.if-is_sought.true))

pub overflow_add-index : goal.overflow_add-index
overflow_add-index c =
    let past = past_of c.args.state.now.entries in
    let within = slice_get_within (tickets_held (unended_tickets past) c.args.caller.0) c.loop-ticket.index
    c.in-Some.ticket (sym c.unended.ensures ∙ c.in-Some.is) in
    let few = held_few past c.args.caller.0 in
    let most = c.number-most.ensures in
    omega (arith, within, few, most)

pub loop-ticket-smaller : goal.loop-ticket-smaller
loop-ticket-smaller c =
    let within = slice_get_within (tickets_held (unended_tickets (past_of c.args.state.now.entries)) c.args.caller.0)
    c.loop-ticket.index c.in-Some.ticket (sym c.unended.ensures ∙ c.in-Some.is) in
    omega (arith, within)

pub loop-ticket-preserved : goal.loop-ticket-preserved
loop-ticket-preserved c =
    let past = past_of c.args.state.now.entries in
    let within = slice_get_within (tickets_held (unended_tickets past) c.args.caller.0) c.loop-ticket.index
    c.in-Some.ticket (sym c.unended.ensures ∙ c.in-Some.is) in (
      omega (arith, within),
      c.loop-ticket.invariant.1
          ∙ find_next (is_sought c.args.state.now.layout past c.args.lending c.args.sought)
          (tickets_held (unended_tickets past) c.args.caller.0) c.loop-ticket.index c.in-Some.ticket
          (sym c.unended.ensures ∙ c.in-Some.is) (sym c.is_sought.ensures ∙ c.if-is_sought.false),
    )

pub returns : goal.returns
returns c =
    let past = past_of c.args.state.now.entries in
    sym (c.loop-ticket.invariant.1
    ∙ ap (find (is_sought c.args.state.now.layout past c.args.lending c.args.sought))
    (drop_none (tickets_held (unended_tickets past) c.args.caller.0) c.loop-ticket.index
    (sym c.unended.ensures ∙ c.in_default.is)))
