use Rattle.std.proofs.Common.{◌∙◌, ap}
use Rattle.cmwq_state.proofs.Applied.{may_end_flights, may_start_flights, may_open_flights, flights_applied}
use Rattle.cmwq_state.proofs.Applied.{flights_apply}
use Rattle.cmwq_state.proofs.apply.apply_flights.Goals as goal

pub move_flights-requires-clause-ended : goal.move_flights-requires-clause-ended
move_flights-requires-clause-ended c =
    rw c.requires.3 (may_end_flights c.requires.0 c.requires.1 c.args.effect.now c.requires.2.effect)

pub move_flights-requires-clause-started : goal.move_flights-requires-clause-started
move_flights-requires-clause-started c =
    rw c.requires.3 (may_start_flights c.requires.0 c.requires.1 c.args.effect.now c.requires.2.effect)

pub move_flights-requires-clause-opened : goal.move_flights-requires-clause-opened
move_flights-requires-clause-opened c =
    rw c.requires.3 (may_open_flights c.requires.0 c.requires.1 c.args.effect.now c.requires.2.effect)

pub returns : goal.returns
returns c s past next are =
    c.move_flights.ensures
    ∙ (ap (flights_applied c.args.effect.now) are ∙ flights_apply s past c.args.effect.now next.effect)
