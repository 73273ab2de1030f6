use Rattle.cmwq_core.specs.Common.{ap, ◌∙◌, booking_of, past_of, ticket_in}
use Rattle.cmwq_core.proofs.Effecting.{entry_inside, legal_there}
use Rattle.cmwq_core.proofs.effects.effect_of.Goals as goal

pub ended_by-ended-requires-clause-there : goal.ended_by-ended-requires-clause-there
ended_by-ended-requires-clause-there c = let b = c.args.state.now in
    legal_there b.layout (past_of b.entries) c.args.entry c.requires.legal

pub ended_by-ended-requires-clause-inside : goal.ended_by-ended-requires-clause-inside
ended_by-ended-requires-clause-inside c = let b = c.args.state.now in
    entry_inside b.layout (past_of b.entries) c.args.entry c.requires.legal

pub started_by-started-requires-clause-there : goal.started_by-started-requires-clause-there
started_by-started-requires-clause-there c = let b = c.args.state.now in
    legal_there b.layout (past_of b.entries) c.args.entry c.requires.legal

pub opened_by-opened-requires : goal.opened_by-opened-requires
opened_by-opened-requires c = let b = c.args.state.now in
    entry_inside b.layout (past_of b.entries) c.args.entry c.requires.legal

pub done_by-requires : goal.done_by-requires
done_by-requires c = let b = c.args.state.now in legal_there b.layout (past_of b.entries) c.args.entry c.requires.legal

pub owed_with-owing-requires-clause-inside : goal.owed_with-owing-requires-clause-inside
owed_with-owing-requires-clause-inside c = let b = c.args.state.now in
    entry_inside b.layout (past_of b.entries) c.args.entry c.requires.legal

pub owed_with-owing-requires-clause-booked : goal.owed_with-owing-requires-clause-booked
owed_with-owing-requires-clause-booked c =
    c.booking-booked.ensures ∙ ap (booking_of c.args.entry) c.number-number.ensures

pub returns-clause-is : goal.returns-clause-is
returns-clause-is c =
    let b = c.args.state.now in
    record {
      legal = c.requires.legal;
      ended = c.ended_by-ended.ensures;
      started = c.started_by-started.ensures;
      opened = c.opened_by-opened.ensures;
      done = c.done_by.ensures;
      begun = c.ticket.ensures ∙ ap (ticket_in c.args.entry) c.number-number.ensures;
      settled = c.settled_by.ensures;
      booked = c.booking-booked.ensures ∙ ap (booking_of c.args.entry) c.number-number.ensures;
      owing = c.owed_with-owing.ensures;
    }
