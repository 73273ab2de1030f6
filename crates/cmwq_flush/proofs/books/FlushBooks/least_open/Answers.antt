use Rattle.cmwq_flush.specs.Common.{length, arith}
use Rattle.cmwq_flush.specs.Rows.{rows_at}
use Rattle.cmwq_flush.proofs.Rightness.{first_is_least}
use Rattle.cmwq_flush.proofs.Queues.{books-length, opened_of, rows_rise}
use Rattle.cmwq_flush.proofs.books.FlushBooks.least_open.Goals as goal

pub first-requires : goal.first-requires
first-requires c = grind (arith, books-length, c.self.invariant.0.many, c.self.invariant.0.lists)

pub returns-clause-first : goal.returns-clause-first
returns-clause-first c = grind (arith, opened_of, c.args.queue.0, c.self.invariant.0.many, c.self.invariant.0.lists)

pub returns-clause-least : goal.returns-clause-least
returns-clause-least c =
    let b = c.self.inside in
    rw (
      ← c.self.view_is,
      opened_of (length b.openings.opened) b.openings.rows b.overflow.queues b.queues.items
          c.args.queue.0 c.self.invariant.0.many c.self.invariant.0.lists,
    )
    (first_is_least (rows_at b.openings.rows c.args.queue.0) c.first.result c.first.ensures
    (rows_rise (length b.openings.opened) b.openings.rows b.overflow.queues b.queues.items c.self.invariant.0
    c.args.queue.0))
