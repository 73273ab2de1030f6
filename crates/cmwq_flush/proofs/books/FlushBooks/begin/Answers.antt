use Rattle.cmwq_flush.specs.Common.{ℕ, List, length, ap, ap₂, sym, ◌∙◌, arith}
use Rattle.cmwq_flush.specs.Overflow.{OverflowLists, tickets_at}
use Rattle.cmwq_flush.specs.Rows.{rows_at}
use Rattle.cmwq_flush.specs.FlushBook.{FlushBook, flushes_with_wait}
use Rattle.cmwq_flush.specs.FlushBooks.{FlushState}
use Rattle.cmwq_flush.proofs.Queues.{found_inside, found_right, found_book, overflow_there, overflow_counted}
use Rattle.cmwq_flush.proofs.Queues.{changed_right, changed_books}
use Rattle.cmwq_flush.proofs.books.FlushBooks.begin.Goals as goal

pub index_mut-requires : goal.index_mut-requires
index_mut-requires c = grind (arith, found_inside, c.self.invariant.0, c.args.queue.0)

pub begin-requires-clause-queue : goal.begin-requires-clause-queue
begin-requires-clause-queue c = grind (arith, overflow_there, c.self.invariant.0, c.args.queue.0)

pub begin-requires-clause-room : goal.begin-requires-clause-room
begin-requires-clause-room c = grind (arith, overflow_counted, c.self.invariant.0.many, c.self.invariant.0.lists)

pub begin-requires-clause-right : goal.begin-requires-clause-right
begin-requires-clause-right c =
    let b = c.self.inside in let v = c.index_mut.result.now in
    let there = rw (← c.self.view_is) at c.requires.queue in
    let right =
    found_right (length b.openings.opened) b.openings.rows b.overflow.queues b.queues.items c.self.invariant.0
    c.args.queue.0 c.from.result there c.from.ensures v c.index_mut.ensures.value in
    let latest =
    rw (found_book (length b.openings.opened) b.openings.rows b.overflow.queues b.queues.items c.self.invariant.0
    c.args.queue.0 c.from.result there c.from.ensures v c.index_mut.ensures.value) at
    (rw (← c.self.view_is) at c.requires.can).latest in
    (length b.openings.opened, rows_at b.openings.rows c.args.queue.0, right, latest)

pub invariant_of-self : goal.invariant_of-self
invariant_of-self c =
    let b = c.self.inside in let v = c.index_mut.result.now in
    let there = rw (← c.self.view_is) at c.requires.queue in
    let right =
    found_right (length b.openings.opened) b.openings.rows b.overflow.queues b.queues.items c.self.invariant.0
    c.args.queue.0 c.from.result there c.from.ensures v c.index_mut.ensures.value in
    let latest =
    rw (found_book (length b.openings.opened) b.openings.rows b.overflow.queues b.queues.items c.self.invariant.0
    c.args.queue.0 c.from.result there c.from.ensures v c.index_mut.ensures.value) at
    (rw (← c.self.view_is) at c.requires.can).latest in
    let now = c.begin.ensures.right (length b.openings.opened) (rows_at b.openings.rows c.args.queue.0) right latest in
    let changed =
    changed_right (length b.openings.opened) b.openings.rows b.overflow.queues b.queues.items c.self.invariant.0
    c.args.queue.0 c.from.result there c.from.ensures (tickets_at c.begin.new.overflow.queues c.args.queue.0)
    c.begin.new.self now.0 in
    (rw (← ap (λ (o : OverflowLists). o.queues) c.begin.ensures.others) at changed, c.self.invariant.1)

pub returns : goal.returns
returns c =
    let b = c.self.inside in let v = c.index_mut.result.now in
    let there = rw (← c.self.view_is) at c.requires.queue in
    let right =
    found_right (length b.openings.opened) b.openings.rows b.overflow.queues b.queues.items c.self.invariant.0
    c.args.queue.0 c.from.result there c.from.ensures v c.index_mut.ensures.value in
    let latest =
    rw (found_book (length b.openings.opened) b.openings.rows b.overflow.queues b.queues.items c.self.invariant.0
    c.args.queue.0 c.from.result there c.from.ensures v c.index_mut.ensures.value) at
    (rw (← c.self.view_is) at c.requires.can).latest in
    let now = c.begin.ensures.right (length b.openings.opened) (rows_at b.openings.rows c.args.queue.0) right latest in
    let book =
    found_book (length b.openings.opened) b.openings.rows b.overflow.queues b.queues.items c.self.invariant.0
    c.args.queue.0 c.from.result there c.from.ensures v c.index_mut.ensures.value in
    let queues = ap (λ (o : OverflowLists). o.queues) c.begin.ensures.others in
    let room = ap (λ (o : OverflowLists). o.room) c.begin.ensures.others in
    let changed =
    changed_books (length b.openings.opened) b.openings.rows b.overflow.queues b.queues.items c.self.invariant.0
    c.args.queue.0 c.from.result there c.from.ensures (tickets_at c.begin.new.overflow.queues c.args.queue.0)
    c.begin.new.self _ (now.1 ∙ ap (λ (o : FlushBook). flushes_with_wait o c.args.ticket) (sym book)) in
    rw (← c.self.view_is)
    (ap₂ (λ (n : ℕ) (bs : List FlushBook). let s : FlushState =
    record { room = n; books = bs; opened = b.openings.opened } in s) room (rw (← queues) at changed))
