use Rattle.std.proofs.Common.{◌∙◌, ap}
use Rattle.cmwq_state.proofs.Applied.{may_end_tickets, may_give_tickets, tickets_applied, tickets_apply}
use Rattle.cmwq_state.proofs.apply.apply_tickets.Goals as goal

pub move_tickets-requires-clause-ended : goal.move_tickets-requires-clause-ended
move_tickets-requires-clause-ended c =
    rw c.requires.3 (may_end_tickets c.requires.0 c.requires.1 c.args.effect.now c.requires.2.effect)

pub move_tickets-requires-clause-given : goal.move_tickets-requires-clause-given
move_tickets-requires-clause-given c =
    rw c.requires.3 (may_give_tickets c.requires.0 c.requires.1 c.args.effect.now c.requires.2.effect)

pub returns : goal.returns
returns c s past next are =
    c.move_tickets.ensures
    ∙ (ap (tickets_applied c.args.effect.now) are ∙ tickets_apply s past c.args.effect.now next.effect)
