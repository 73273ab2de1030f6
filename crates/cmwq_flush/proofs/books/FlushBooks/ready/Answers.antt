use Rattle.cmwq_flush.specs.Common.{length, arith}
use Rattle.cmwq_flush.specs.Overflow.{tickets_at}
use Rattle.cmwq_flush.specs.Rows.{rows_at}
use Rattle.cmwq_flush.proofs.Queues.{books-length, found_inside, found_right, found_book}
use Rattle.cmwq_flush.proofs.books.FlushBooks.ready.Goals as goal

pub is_empty-is_empty-requires : goal.is_empty-is_empty-requires
is_empty-is_empty-requires c = grind (arith, books-length, c.self.invariant.0.many, c.self.invariant.0.lists)

pub index-requires : goal.index-requires
index-requires c = grind (arith, found_inside, c.self.invariant.0, c.args.queue.0)

pub ready-requires : goal.ready-requires
ready-requires c =
    let b = c.self.inside in
    let there = rw (← c.self.view_is) at c.requires.queue in
    let stands =
    rw (found_book (length b.openings.opened) b.openings.rows b.overflow.queues b.queues.items c.self.invariant.0
    c.args.queue.0 c.from.result there c.from.ensures c.index.result.now c.index.ensures) at
    (rw (← c.self.view_is) at c.requires.stands) in (
      length b.openings.opened,
      rows_at b.openings.rows c.args.queue.0,
      tickets_at b.overflow.queues c.args.queue.0,
      found_right (length b.openings.opened) b.openings.rows b.overflow.queues b.queues.items c.self.invariant.0
          c.args.queue.0 c.from.result there c.from.ensures c.index.result.now c.index.ensures,
      stands,
    )

pub returns-clause-bound : goal.returns-clause-bound
returns-clause-bound c =
    let b = c.self.inside in
    let there = rw (← c.self.view_is) at c.requires.queue in
    let book =
    found_book (length b.openings.opened) b.openings.rows b.overflow.queues b.queues.items c.self.invariant.0
    c.args.queue.0 c.from.result there c.from.ensures c.index.result.now c.index.ensures in
    let stands = rw book at (rw (← c.self.view_is) at c.requires.stands) in
    rw (← c.self.view_is, book)
    (c.ready.ensures.bound (length b.openings.opened) (rows_at b.openings.rows c.args.queue.0)
    (tickets_at b.overflow.queues c.args.queue.0)
    (found_right (length b.openings.opened) b.openings.rows b.overflow.queues b.queues.items c.self.invariant.0
    c.args.queue.0 c.from.result there c.from.ensures c.index.result.now c.index.ensures) stands
    c.is_empty-is_empty.ensures)

pub returns-clause-colours : goal.returns-clause-colours
returns-clause-colours c =
    let b = c.self.inside in
    let there = rw (← c.self.view_is) at c.requires.queue in
    let book =
    found_book (length b.openings.opened) b.openings.rows b.overflow.queues b.queues.items c.self.invariant.0
    c.args.queue.0 c.from.result there c.from.ensures c.index.result.now c.index.ensures in
    rw (← c.self.view_is, book)
    (c.ready.ensures.colours (length b.openings.opened) (rows_at b.openings.rows c.args.queue.0)
    (tickets_at b.overflow.queues c.args.queue.0)
    (found_right (length b.openings.opened) b.openings.rows b.overflow.queues b.queues.items c.self.invariant.0
    c.args.queue.0 c.from.result there c.from.ensures c.index.result.now c.index.ensures))
