use Rattle.cmwq_state.specs.Common.{◌∙◌, layout_of, past_of, unended_flushes_stand}
use Rattle.cmwq_flush.specs.FlushBooks.{book_in}
use Rattle.cmwq_state.proofs.Ends.{ready_for_none, waits_for_first}
use Rattle.cmwq_state.proofs.state.State.flush_waits_for.Goals as goal

pub ready-requires-clause-queue : goal.ready-requires-clause-queue
ready-requires-clause-queue c =
    let here = rw (← c.self.view_is) at c.requires.queue in
    rw c.self.invariant.parts_are.books.many here

pub ready-requires-clause-stands : goal.ready-requires-clause-stands
ready-requires-clause-stands c = let b = c.self.inside in
    let here = rw (← c.self.view_is) at c.requires.queue in
    let unended = rw (← c.self.view_is) at c.requires.unended in
    unended_flushes_stand (layout_of b.counts b.queues.items) (past_of b.entries) c.args.queue.0
    (book_in b.books.books c.args.queue.0) c.args.ticket (c.self.invariant.parts_are.books.each c.args.queue.0 here)
    unended c.requires.flush

pub returns-then-ready : goal.returns-then-ready
returns-then-ready c = let b = c.self.inside in
    let here = rw (← c.self.view_is) at c.requires.queue in
    let unended = rw (← c.self.view_is) at c.requires.unended in
    let is = c.self.invariant.parts_are.books.each c.args.queue.0 here in
    let s = layout_of b.counts b.queues.items in
    let stands =
    unended_flushes_stand s (past_of b.entries) c.args.queue.0 (book_in b.books.books c.args.queue.0) c.args.ticket
    is unended c.requires.flush in
    rw (← c.self.view_is)
    (ready_for_none s (past_of b.entries) c.args.queue (book_in b.books.books c.args.queue.0) c.args.ticket.number
    c.ready.result is stands c.ready.ensures.bound c.if-ready.true)

pub least_open-requires : goal.least_open-requires
least_open-requires c =
    let here = rw (← c.self.view_is) at c.requires.queue in
    rw c.self.invariant.parts_are.books.many here

pub returns-else-ready : goal.returns-else-ready
returns-else-ready c = let b = c.self.inside in
    let here = rw (← c.self.view_is) at c.requires.queue in
    let unended = rw (← c.self.view_is) at c.requires.unended in
    let is = c.self.invariant.parts_are.books.each c.args.queue.0 here in
    let s = layout_of b.counts b.queues.items in
    let stands =
    unended_flushes_stand s (past_of b.entries) c.args.queue.0 (book_in b.books.books c.args.queue.0) c.args.ticket
    is unended c.requires.flush in
    c.least_open.ensures.first
    ∙ rw (← c.self.view_is)
    (waits_for_first s (past_of b.entries) c.args.queue (book_in b.books.books c.args.queue.0) c.args.ticket.number
    c.ready.result is stands c.ready.ensures.bound c.if-ready.false)
