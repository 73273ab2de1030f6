use Rattle.cmwq_flush.specs.Common.{ℕ, List, length, ap, ap₂, sym, ◌∙◌, arith}
use Rattle.cmwq_flush.specs.Overflow.{OverflowLists, tickets_at}
use Rattle.cmwq_flush.specs.Rows.{rows_at}
use Rattle.cmwq_flush.specs.FlushBook.{FlushBook, flushes_without_wait}
use Rattle.cmwq_flush.specs.FlushBooks.{FlushState}
use Rattle.cmwq_flush.proofs.Queues.{found_inside, found_right, found_book, overflow_there, changed_right}
use Rattle.cmwq_flush.proofs.Queues.{changed_books}
use Rattle.cmwq_flush.proofs.books.FlushBooks.end.Goals as goal

pub index_mut-requires : goal.index_mut-requires
index_mut-requires c = grind (arith, found_inside, c.self.invariant.0, c.args.queue.0)

pub end-requires-clause-queue : goal.end-requires-clause-queue
end-requires-clause-queue c = grind (arith, overflow_there, c.self.invariant.0, c.args.queue.0)

pub end-requires-clause-right : goal.end-requires-clause-right
end-requires-clause-right c =
    let b = c.self.inside in let v = c.index_mut.result.now in
    let there = rw (← c.self.view_is) at c.requires.queue in
    let right =
    found_right (length b.openings.opened) b.openings.rows b.overflow.queues b.queues.items c.self.invariant.0
    c.args.queue.0 c.from.result there c.from.ensures v c.index_mut.ensures.value in
    let stands =
    rw (found_book (length b.openings.opened) b.openings.rows b.overflow.queues b.queues.items c.self.invariant.0
    c.args.queue.0 c.from.result there c.from.ensures v c.index_mut.ensures.value) at
    (rw (← c.self.view_is) at c.requires.stands) in
    let ready =
    rw (found_book (length b.openings.opened) b.openings.rows b.overflow.queues b.queues.items c.self.invariant.0
    c.args.queue.0 c.from.result there c.from.ensures v c.index_mut.ensures.value) at
    (rw (← c.self.view_is) at c.requires.is_ready) in
    (length b.openings.opened, rows_at b.openings.rows c.args.queue.0, right, stands, ready)

pub invariant_of-self : goal.invariant_of-self
invariant_of-self c =
    let b = c.self.inside in let v = c.index_mut.result.now in
    let there = rw (← c.self.view_is) at c.requires.queue in
    let right =
    found_right (length b.openings.opened) b.openings.rows b.overflow.queues b.queues.items c.self.invariant.0
    c.args.queue.0 c.from.result there c.from.ensures v c.index_mut.ensures.value in
    let stands =
    rw (found_book (length b.openings.opened) b.openings.rows b.overflow.queues b.queues.items c.self.invariant.0
    c.args.queue.0 c.from.result there c.from.ensures v c.index_mut.ensures.value) at
    (rw (← c.self.view_is) at c.requires.stands) in
    let ready =
    rw (found_book (length b.openings.opened) b.openings.rows b.overflow.queues b.queues.items c.self.invariant.0
    c.args.queue.0 c.from.result there c.from.ensures v c.index_mut.ensures.value) at
    (rw (← c.self.view_is) at c.requires.is_ready) in
    let now =
    c.end.ensures.right (length b.openings.opened) (rows_at b.openings.rows c.args.queue.0) right stands ready in
    let changed =
    changed_right (length b.openings.opened) b.openings.rows b.overflow.queues b.queues.items c.self.invariant.0
    c.args.queue.0 c.from.result there c.from.ensures (tickets_at c.end.new.overflow.queues c.args.queue.0)
    c.end.new.self now.0 in
    (rw (← ap (λ (o : OverflowLists). o.queues) c.end.ensures.others) at changed, c.self.invariant.1)

pub returns : goal.returns
returns c =
    let b = c.self.inside in let v = c.index_mut.result.now in
    let there = rw (← c.self.view_is) at c.requires.queue in
    let right =
    found_right (length b.openings.opened) b.openings.rows b.overflow.queues b.queues.items c.self.invariant.0
    c.args.queue.0 c.from.result there c.from.ensures v c.index_mut.ensures.value in
    let stands =
    rw (found_book (length b.openings.opened) b.openings.rows b.overflow.queues b.queues.items c.self.invariant.0
    c.args.queue.0 c.from.result there c.from.ensures v c.index_mut.ensures.value) at
    (rw (← c.self.view_is) at c.requires.stands) in
    let ready =
    rw (found_book (length b.openings.opened) b.openings.rows b.overflow.queues b.queues.items c.self.invariant.0
    c.args.queue.0 c.from.result there c.from.ensures v c.index_mut.ensures.value) at
    (rw (← c.self.view_is) at c.requires.is_ready) in
    let now =
    c.end.ensures.right (length b.openings.opened) (rows_at b.openings.rows c.args.queue.0) right stands ready in
    let book =
    found_book (length b.openings.opened) b.openings.rows b.overflow.queues b.queues.items c.self.invariant.0
    c.args.queue.0 c.from.result there c.from.ensures v c.index_mut.ensures.value in
    let queues = ap (λ (o : OverflowLists). o.queues) c.end.ensures.others in
    let room = ap (λ (o : OverflowLists). o.room) c.end.ensures.others in
    let changed =
    changed_books (length b.openings.opened) b.openings.rows b.overflow.queues b.queues.items c.self.invariant.0
    c.args.queue.0 c.from.result there c.from.ensures (tickets_at c.end.new.overflow.queues c.args.queue.0)
    c.end.new.self _ (now.1 ∙ ap (λ (o : FlushBook). flushes_without_wait o c.args.ticket) (sym book)) in
    rw (← c.self.view_is)
    (ap₂ (λ (n : ℕ) (bs : List FlushBook). let s : FlushState =
    record { room = n; books = bs; opened = b.openings.opened } in s) room (rw (← queues) at changed))
