use Rattle.cmwq_state.specs.Common.{◌∙◌, ap, layout_of, past_of, TimerRows, any_timer_on}
use Rattle.cmwq_refinement.proofs.BookedOn.{timers_stand_on_queues}
use Rattle.cmwq_state.proofs.state.State.is_booked_on.Goals as goal

pub returns : goal.returns
returns c = let b = c.self.inside in
    rw (← c.self.view_is)
    (c.is_booked_on.ensures
    ∙ (ap (λ (rows : TimerRows). any_timer_on rows c.args.queue.0) c.self.invariant.parts_are.timers
    ∙ timers_stand_on_queues (layout_of b.counts b.queues.items) (past_of b.entries) c.args.queue.0
    c.self.invariant.legal))
