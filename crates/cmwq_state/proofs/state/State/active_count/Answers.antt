use Rattle.cmwq_state.specs.Common.{◌∙◌, ap, length, layout_of, past_of, open_count, open_are_in_flight}
use Rattle.cmwq_state.proofs.Counting.{active_rest}
use Rattle.cmwq_state.proofs.state.State.active_count.Goals as goal

pub overflow_sub-result : goal.overflow_sub-result
overflow_sub-result c = let b = c.self.inside in
    (active_rest (layout_of b.counts b.queues.items) (past_of b.entries) c.open_count.result c.len.result
    (c.open_count.ensures
    ∙ (ap open_count c.self.invariant.parts_are.flights
    ∙ open_are_in_flight (layout_of b.counts b.queues.items) (past_of b.entries) c.self.invariant.legal))
    (c.len.ensures ∙ ap length c.self.invariant.parts_are.pwqs.waiting)).0

pub returns : goal.returns
returns c = let b = c.self.inside in
    rw (← c.self.view_is)
    (active_rest (layout_of b.counts b.queues.items) (past_of b.entries) c.open_count.result c.len.result
    (c.open_count.ensures
    ∙ (ap open_count c.self.invariant.parts_are.flights
    ∙ open_are_in_flight (layout_of b.counts b.queues.items) (past_of b.entries) c.self.invariant.legal))
    (c.len.ensures ∙ ap length c.self.invariant.parts_are.pwqs.waiting)).1
