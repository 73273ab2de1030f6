use Rattle.cmwq_state.specs.Common.{◌∙◌, ap, layout_of, past_of, Flight}
use Rattle.cmwq_state.proofs.Readings.{flight_there, flight_read}
use Rattle.cmwq_state.proofs.state.State.item_run.Goals as goal

pub run-requires : goal.run-requires
run-requires c = let b = c.self.inside in let here = rw (← c.self.view_is) at c.requires in
    flight_there (layout_of b.counts b.queues.items) (past_of b.entries) b.flights c.args.item.0
    c.self.invariant.parts_are.flights here

pub returns-clause-is : goal.returns-clause-is
returns-clause-is c = let b = c.self.inside in let here = rw (← c.self.view_is) at c.requires in
    rw (← c.self.view_is)
    (c.run.ensures.run
    ∙ ap (λ (f : Flight). f.run)
    (flight_read (layout_of b.counts b.queues.items) (past_of b.entries) b.flights c.args.item.0
    c.self.invariant.parts_are.flights here))
