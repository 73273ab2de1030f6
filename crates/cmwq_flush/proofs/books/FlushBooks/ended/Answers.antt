use Rattle.cmwq_flush.specs.Common.{length, set, ap, sym, ◌∙◌, arith, List}
use Rattle.std.proofs.lemmas.List.{length-set}
use Rattle.cmwq_flush.specs.Numbers.{without}
use Rattle.cmwq_flush.specs.Overflow.{tickets_at}
use Rattle.cmwq_flush.specs.Rows.{rows_at, without_row}
use Rattle.cmwq_flush.specs.ItemNumbers.{numbers_open}
use Rattle.cmwq_flush.specs.FlushBook.{FlushBook, flushes_without_open}
use Rattle.cmwq_flush.specs.FlushBooks.{FlushState}
use Rattle.cmwq_flush.proofs.Queues.{books-length, book_at, found_inside, found_right, found_book, both_right}
use Rattle.cmwq_flush.proofs.Queues.{both_books}
use Rattle.cmwq_flush.proofs.books.FlushBooks.ended.Goals as goal

pub index_mut-requires : goal.index_mut-requires
index_mut-requires c = grind (arith, found_inside, c.self.invariant.0, c.args.queue.0)

pub ended-requires : goal.ended-requires
ended-requires c =
    let b = c.self.inside in let v = c.index_mut.result.now in
    let r = rw (← c.self.view_is) at c.requires in
    let there = r.queue in
    let right =
    found_right (length b.openings.opened) b.openings.rows b.overflow.queues b.queues.items c.self.invariant.0
    c.args.queue.0 c.from.result there c.from.ensures v c.index_mut.ensures.value in
    let on = rw
    (book_at (length b.openings.opened) b.openings.rows b.overflow.queues b.queues.items c.args.queue.0 v
    c.self.invariant.0.many c.self.invariant.0.lists
    (let size =
    books-length (length b.openings.opened) b.openings.rows b.overflow.queues b.queues.items c.self.invariant.0.many
    c.self.invariant.0.lists in omega arith)) at r.on in
    let has = c.close-colour.ensures.colour c.args.queue.0 on in (
      length b.openings.opened,
      rows_at b.openings.rows c.args.queue.0,
      tickets_at b.overflow.queues c.args.queue.0,
      c.args.number,
      right,
      has,
    )

pub invariant_of-self : goal.invariant_of-self
invariant_of-self c =
    let b = c.self.inside in let v = c.index_mut.result.now in
    let r = rw (← c.self.view_is) at c.requires in
    let there = r.queue in
    let right =
    found_right (length b.openings.opened) b.openings.rows b.overflow.queues b.queues.items c.self.invariant.0
    c.args.queue.0 c.from.result there c.from.ensures v c.index_mut.ensures.value in
    let on = rw
    (book_at (length b.openings.opened) b.openings.rows b.overflow.queues b.queues.items c.args.queue.0 v
    c.self.invariant.0.many c.self.invariant.0.lists
    (let size =
    books-length (length b.openings.opened) b.openings.rows b.overflow.queues b.queues.items c.self.invariant.0.many
    c.self.invariant.0.lists in omega arith)) at r.on in
    let has = c.close-colour.ensures.colour c.args.queue.0 on in
    let now =
    c.ended.ensures (length b.openings.opened) (rows_at b.openings.rows c.args.queue.0)
    (tickets_at b.overflow.queues c.args.queue.0) c.args.number right has in
    let size =
    length-set b.openings.opened c.args.item.0
    (without c.args.number (numbers_open b.openings.opened c.args.item.0)) in
    rw (c.close-colour.ensures.closed c.args.queue.0 on, size) (
      both_right (length b.openings.opened) b.openings.rows b.overflow.queues b.queues.items c.self.invariant.0
          c.args.queue.0 c.from.result there c.from.ensures
          (without_row c.args.number (rows_at b.openings.rows c.args.queue.0)) c.ended.new.self now.0,
      c.self.invariant.1,
    )

pub returns : goal.returns
returns c =
    let b = c.self.inside in let v = c.index_mut.result.now in
    let r = rw (← c.self.view_is) at c.requires in
    let there = r.queue in
    let right =
    found_right (length b.openings.opened) b.openings.rows b.overflow.queues b.queues.items c.self.invariant.0
    c.args.queue.0 c.from.result there c.from.ensures v c.index_mut.ensures.value in
    let on = rw
    (book_at (length b.openings.opened) b.openings.rows b.overflow.queues b.queues.items c.args.queue.0 v
    c.self.invariant.0.many c.self.invariant.0.lists
    (let size =
    books-length (length b.openings.opened) b.openings.rows b.overflow.queues b.queues.items c.self.invariant.0.many
    c.self.invariant.0.lists in omega arith)) at r.on in
    let has = c.close-colour.ensures.colour c.args.queue.0 on in
    let now =
    c.ended.ensures (length b.openings.opened) (rows_at b.openings.rows c.args.queue.0)
    (tickets_at b.overflow.queues c.args.queue.0) c.args.number right has in
    let book =
    found_book (length b.openings.opened) b.openings.rows b.overflow.queues b.queues.items c.self.invariant.0
    c.args.queue.0 c.from.result there c.from.ensures v c.index_mut.ensures.value in
    let size =
    length-set b.openings.opened c.args.item.0
    (without c.args.number (numbers_open b.openings.opened c.args.item.0)) in
    rw (c.close-colour.ensures.closed c.args.queue.0 on, size, ← c.self.view_is)
    (ap (λ (bs : List FlushBook). let s : FlushState =
    record {
      room = b.overflow.room;
      books = bs;
      opened =
          set b.openings.opened c.args.item.0 (without c.args.number (numbers_open b.openings.opened c.args.item.0));
    } in
    s)
    (both_books (length b.openings.opened) b.openings.rows b.overflow.queues b.queues.items c.self.invariant.0
    c.args.queue.0 c.from.result there c.from.ensures
    (without_row c.args.number (rows_at b.openings.rows c.args.queue.0)) c.ended.new.self _
    (now.1 ∙ ap (λ (o : FlushBook). flushes_without_open o c.args.number) (sym book))))
