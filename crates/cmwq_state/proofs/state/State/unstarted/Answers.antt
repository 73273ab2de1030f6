use Rattle.cmwq_state.specs.Common.{◌∙◌, ap, layout_of, past_of, Flight}
use Rattle.cmwq_state.proofs.Readings.{flight_there, flight_read}
use Rattle.cmwq_state.proofs.state.State.unstarted.Goals as goal

pub unstarted-requires : goal.unstarted-requires
unstarted-requires c = let b = c.self.inside in let here = rw (← c.self.view_is) at c.requires in
    flight_there (layout_of b.counts b.queues.items) (past_of b.entries) b.flights c.args.item.0
    c.self.invariant.parts_are.flights here

pub returns : goal.returns
returns c = let b = c.self.inside in let here = rw (← c.self.view_is) at c.requires in
    rw (← c.self.view_is)
    (c.unstarted.ensures.unstarted
    ∙ ap (λ (f : Flight). f.unstarted)
    (flight_read (layout_of b.counts b.queues.items) (past_of b.entries) b.flights c.args.item.0
    c.self.invariant.parts_are.flights here))
