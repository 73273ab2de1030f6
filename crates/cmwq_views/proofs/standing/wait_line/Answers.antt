use Rattle.std.proofs.Common.{◌∙◌, sym}
use Rattle.std.specs.Prelude.{◌%◌, Contains}
use Rattle.cmwq_model.specs.Prelude.{past_of}
use Rattle.cmwq_model.specs.Tickets.{is_held_by, unended_tickets}
use Rattle.cmwq_refinement.specs.Tickets.{the_caller, tickets_held}
use Rattle.cmwq_lemmas.proofs.Members.{in_contained, in_filter}
use Rattle.cmwq_views.proofs.Held.{got_in}
use Rattle.cmwq_views.proofs.standing.wait_line.Goals as goal

is_unended : (c : goal.In-Some) → Contains (unended_tickets (past_of c.state.result.now.entries)) c.in-Some.ticket
is_unended c = let unended = unended_tickets (past_of c.state.result.now.entries) in
    let caller = c.caller_at-caller.result.0 in
    in_contained unended c.in-Some.ticket
    (in_filter (is_held_by (the_caller caller)) unended c.in-Some.ticket
    (got_in (tickets_held unended caller) (c.args.number % 64) c.in-Some.ticket
    (sym c.unended.ensures ∙ c.in-Some.is))).0

held : (c : goal.After-last_wait) → Contains (unended_tickets (past_of c.state.result.now.entries)) c.in-Some.ticket
held c = let unended = unended_tickets (past_of c.state.result.now.entries) in
    let caller = c.caller_at-caller.result.0 in
    in_contained unended c.in-Some.ticket
    (in_filter (is_held_by (the_caller caller)) unended c.in-Some.ticket
    (got_in (tickets_held unended caller) (c.args.number % 64) c.in-Some.ticket
    (sym c.unended.ensures ∙ c.in-Some.is))).0

pub last_wait-requires : goal.last_wait-requires
last_wait-requires c = rw (← c.state.ensures.entries) (is_unended c)

pub cause_of-requires : goal.cause_of-requires
cause_of-requires c = rw (← c.state.ensures.entries) (held c)
