use Rattle.cmwq_state.specs.Common.{◌∙◌, ap, length, layout_of, past_of}
use Rattle.std.proofs.lemmas.List.FromFn.{length-map-range_with_len}
use Rattle.cmwq_refinement.specs.ItemNumbers.{item_numbers}
use Rattle.cmwq_flush.specs.FlushBooks.{book_in}
use Rattle.cmwq_state.proofs.Ends.{other_waits, flushed_there, item_waits, drain_waits, drained_there}
use Rattle.cmwq_state.proofs.state.State.waits_for.Goals as goal

pub item_waits_for-requires : goal.item_waits_for-requires
item_waits_for-requires c = let b = c.self.inside in
    let s = layout_of b.counts b.queues.items in
    let here =
    rw (← c.self.view_is) at
    (flushed_there c.args.self.now.layout c.args.ticket c.in-FlushItem.item c.in-FlushItem.is c.requires.there) in
    rw (ap length c.self.invariant.parts_are.books.numbers
    ∙ length-map-range_with_len (item_numbers (past_of b.entries)) 0 s.items) here

pub returns-in-FlushItem : goal.returns-in-FlushItem
returns-in-FlushItem c = let b = c.self.inside in
    let s = layout_of b.counts b.queues.items in
    let here =
    rw (← c.self.view_is) at
    (flushed_there c.args.self.now.layout c.args.ticket c.in-FlushItem.item c.in-FlushItem.is c.requires.there) in
    c.item_waits_for.ensures.value
    ∙ rw (← c.self.view_is)
    (item_waits s (past_of b.entries) c.in-FlushItem.item c.args.ticket b.books.opened
    c.self.invariant.parts_are.books.numbers here c.in-FlushItem.is)

pub returns-in_default : goal.returns-in_default
returns-in_default c = let b = c.args.self.now in
    other_waits (past_of b.entries) c.args.ticket.number c.args.ticket.call c.in_default.not-Flush
    c.in_default.not-Drain c.in_default.not-FlushItem c.in_default.not-FlushDelayed c.in_default.not-CancelSync
    c.in_default.not-Destroy

pub least_open-requires : goal.least_open-requires
least_open-requires c = let here =
    drained_there c.args.self.now.layout c.args.ticket c.in-Drain.queue c.in-Drain.is c.requires.there in
    rw c.self.invariant.parts_are.books.many (rw (← c.self.view_is) at here)

pub returns-in-Drain : goal.returns-in-Drain
returns-in-Drain c = let b = c.self.inside in
    let s = layout_of b.counts b.queues.items in
    let here =
    rw (← c.self.view_is) at
    (drained_there c.args.self.now.layout c.args.ticket c.in-Drain.queue c.in-Drain.is c.requires.there) in
    c.least_open.ensures.first
    ∙ rw (← c.self.view_is)
    (drain_waits s (past_of b.entries) c.in-Drain.queue c.args.ticket (book_in b.books.books c.in-Drain.queue.0)
    (c.self.invariant.parts_are.books.each c.in-Drain.queue.0 here) c.in-Drain.is)
