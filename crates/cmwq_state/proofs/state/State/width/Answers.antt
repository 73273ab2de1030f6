use Rattle.cmwq_model.specs.Prelude.{layout_of, past_of}
use Rattle.cmwq_state.proofs.WidthSteps.{widths_are}
use Rattle.cmwq_state.proofs.state.State.width.Goals as goal

pub returns : goal.returns
returns c =
    let b = c.self.inside in let s = layout_of b.counts b.queues.items in
    let here = rw (← c.self.view_is) at c.requires in
    rw (← c.self.view_is, c.width_by.ensures, c.deref.ensures.value, c.deref-2.ensures.value)
    (widths_are s (past_of b.entries) b.most.items b.frozen c.self.invariant.parts_are.widths c.args.queue.0 here)
