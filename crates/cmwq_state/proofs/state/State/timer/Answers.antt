use Rattle.cmwq_state.specs.Common.{◌∙◌, ap, layout_of, past_of, TimerRows, timer_of, row_at, rows_for_items}
use Rattle.cmwq_state.proofs.state.State.timer.Goals as goal

pub timer-requires : goal.timer-requires
timer-requires c = let b = c.self.inside in let here = rw (← c.self.view_is) at c.requires in
    rw (c.self.invariant.parts_are.timers, rows_for_items (layout_of b.counts b.queues.items) (past_of b.entries)) here

pub returns-clause-is : goal.returns-clause-is
returns-clause-is c = let b = c.self.inside in let here = rw (← c.self.view_is) at c.requires in
    rw (← c.self.view_is)
    (c.timer.ensures
    ∙ (ap (λ (rows : TimerRows). timer_of rows c.args.item.0) c.self.invariant.parts_are.timers
    ∙ row_at (layout_of b.counts b.queues.items) (past_of b.entries) c.args.item.0 here))
