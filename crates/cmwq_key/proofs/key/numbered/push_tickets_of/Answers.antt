use Rattle.std.proofs.Common.{◌≡◌, ◌∙◌, arith, length, sym}
use Rattle.cmwq_model.specs.Prelude.{past_of, unended_tickets}
use Rattle.cmwq_refinement.specs.Tickets.{tickets_held}
use Rattle.cmwq_key.proofs.Gathering.{row_ends, row_goes_on}
use Rattle.cmwq_key.proofs.key.numbered.push_tickets_of.Goals as goal

pub loop-ticket-preserved : goal.loop-ticket-preserved
loop-ticket-preserved c =
    let long : c.len.result ≡ length c.loop-ticket.list.items = omega arith in
    let k =
    row_goes_on c.args.list.now.items c.loop-ticket.list.items c.push.new.self.items
    (tickets_held (unended_tickets (past_of c.args.state.now.entries)) c.args.caller.0) c.len.result c.len-before.result
    c.in-Some.ticket c.loop-ticket.invariant.before c.loop-ticket.invariant.within c.loop-ticket.invariant.list
    long (sym c.unended.ensures ∙ c.in-Some.is) c.in_ok-push.ensures.items in
    record { before = k.0; within = k.1; list = k.2 }

pub returns : goal.returns
returns c =
    let long : c.len.result ≡ length c.loop-ticket.list.items = omega arith in
    row_ends c.args.list.now.items c.loop-ticket.list.items
    (tickets_held (unended_tickets (past_of c.args.state.now.entries)) c.args.caller.0) c.len.result c.len-before.result
    c.loop-ticket.invariant.list long (sym c.unended.ensures ∙ c.in_default.is)
