use Rattle.cmwq_state.specs.Common.{◌∙◌, ap, layout_of, past_of, open_count, open_are_in_flight}
use Rattle.cmwq_state.proofs.state.State.open_count.Goals as goal

pub returns : goal.returns
returns c = let b = c.self.inside in
    rw (← c.self.view_is)
    (c.open_count.ensures
    ∙ (ap open_count c.self.invariant.parts_are.flights
    ∙ open_are_in_flight (layout_of b.counts b.queues.items) (past_of b.entries) c.self.invariant.legal))
