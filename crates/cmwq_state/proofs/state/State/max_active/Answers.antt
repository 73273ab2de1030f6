use Rattle.cmwq_state.specs.Common.{◌<◌, length}
use Rattle.cmwq_state.proofs.state.State.max_active.Goals as goal

pub bounds-most-from : goal.bounds-most-from
bounds-most-from c =
    let here = rw (← c.self.view_is) at c.requires in
    let there : c.args.queue.0 < length c.self.inside.most.items = rw c.self.invariant.parts_are.widths.many here in
    rw (c.from.ensures, c.deref-most.ensures.value) there

pub returns : goal.returns
returns c =
    let here = rw (← c.self.view_is) at c.requires in
    rw (← c.self.view_is, c.deref-most.ensures.value, c.from.ensures)
    (c.self.invariant.parts_are.widths.each c.args.queue.0 here)
