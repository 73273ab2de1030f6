use Rattle.cmwq_state.specs.Common.{◌∙◌, layout_of, past_of, unended_flushes_stand}
use Rattle.cmwq_flush.specs.FlushBooks.{book_in}
use Rattle.cmwq_state.proofs.Ends.{served_alike}
use Rattle.cmwq_state.proofs.state.State.is_flush_served.Goals as goal

pub is_served-requires : goal.is_served-requires
is_served-requires c =
    let here = rw (← c.self.view_is) at c.requires.queue in
    rw c.self.invariant.parts_are.books.many here

pub returns : goal.returns
returns c =
    let b = c.self.inside in
    let s = layout_of b.counts b.queues.items in let past = past_of b.entries in
    let q = c.args.queue.0 in let t = c.args.ticket in let k = book_in b.books.books q in
    let here = rw (← c.self.view_is) at c.requires.queue in
    let is = c.self.invariant.parts_are.books.each q here in
    let unended = rw (← c.self.view_is) at c.requires.unended in
    rw (← c.self.view_is)
    (c.is_served.ensures
    ∙ served_alike s past q k t.number is (unended_flushes_stand s past q k t is unended c.requires.flush))
