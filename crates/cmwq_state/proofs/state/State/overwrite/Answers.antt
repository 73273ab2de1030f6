use Rattle.cmwq_state.specs.Common.{layout_of, past_of}
use Rattle.cmwq_state.specs.State.{AreOfOneSize}
use Rattle.cmwq_state.proofs.Sizes.{pools_of_one_shape}
use Rattle.cmwq_state.proofs.state.State.overwrite.Goals as goal

pub copy_from-requires-2 : goal.copy_from-requires-2
copy_from-requires-2 c =
    let b = c.self.inside in let o = c.other.inside in
    let s = layout_of b.counts b.queues.items in let t = layout_of o.counts o.queues.items in
    let past = past_of b.entries in let other = past_of o.entries in
    let size : AreOfOneSize s t = rw (← c.self.view_is, ← c.other.view_is) at c.requires in
    let own = c.self.invariant.parts_are in let their = c.other.invariant.parts_are in
    pools_of_one_shape s t past other b.pools o.pools size own.pools their.pools
