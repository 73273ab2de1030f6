use Rattle.cmwq_flush.specs.Common.{length, arith}
use Rattle.cmwq_flush.specs.Overflow.{tickets_at}
use Rattle.cmwq_flush.specs.Rows.{rows_at}
use Rattle.cmwq_flush.proofs.Queues.{found_inside, found_right, found_book}
use Rattle.cmwq_flush.proofs.books.FlushBooks.is_served.Goals as goal

pub index-requires : goal.index-requires
index-requires c = grind (arith, found_inside, c.self.invariant.0, c.args.queue.0)

pub is_served-requires : goal.is_served-requires
is_served-requires c =
    let b = c.self.inside in
    let there = rw (← c.self.view_is) at c.requires in (
      length b.openings.opened,
      rows_at b.openings.rows c.args.queue.0,
      tickets_at b.overflow.queues c.args.queue.0,
      found_right (length b.openings.opened) b.openings.rows b.overflow.queues b.queues.items c.self.invariant.0
          c.args.queue.0 c.from.result there c.from.ensures c.index.result.now c.index.ensures,
    )

pub returns : goal.returns
returns c =
    let b = c.self.inside in
    let there = rw (← c.self.view_is) at c.requires in
    let book =
    found_book (length b.openings.opened) b.openings.rows b.overflow.queues b.queues.items c.self.invariant.0
    c.args.queue.0 c.from.result there c.from.ensures c.index.result.now c.index.ensures in
    rw (← c.self.view_is, book)
    (c.is_served.ensures (length b.openings.opened) (rows_at b.openings.rows c.args.queue.0)
    (tickets_at b.overflow.queues c.args.queue.0)
    (found_right (length b.openings.opened) b.openings.rows b.overflow.queues b.queues.items c.self.invariant.0
    c.args.queue.0 c.from.result there c.from.ensures c.index.result.now c.index.ensures))
