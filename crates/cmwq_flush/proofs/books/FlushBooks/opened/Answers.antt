use Rattle.cmwq_flush.specs.Common.{◌++◌, ◌∷◌, [], length, set, ap, sym, ◌∙◌, arith, List}
use Rattle.std.proofs.lemmas.List.{length-set}
use Rattle.cmwq_flush.specs.declared.openings.Row.{Row}
use Rattle.cmwq_flush.specs.Overflow.{tickets_at}
use Rattle.cmwq_flush.specs.Rows.{rows_at}
use Rattle.cmwq_flush.specs.ItemNumbers.{numbers_open}
use Rattle.cmwq_flush.specs.FlushBook.{FlushBook, flushes_with_open}
use Rattle.cmwq_flush.specs.FlushBooks.{FlushState}
use Rattle.cmwq_flush.proofs.Queues.{found_inside, found_right, found_book, both_right, both_books, rows_there}
use Rattle.cmwq_flush.proofs.Queues.{rows_before}
use Rattle.cmwq_flush.proofs.books.FlushBooks.opened.Goals as goal

pub index_mut-requires : goal.index_mut-requires
index_mut-requires c = grind (arith, found_inside, c.self.invariant.0, c.args.queue.0)

pub opened-colour-requires : goal.opened-colour-requires
opened-colour-requires c =
    let b = c.self.inside in let v = c.index_mut.result.now in
    let r = rw (← c.self.view_is) at c.requires.can in
    let there = r.queue in
    let right =
    found_right (length b.openings.opened) b.openings.rows b.overflow.queues b.queues.items c.self.invariant.0
    c.args.queue.0 c.from.result there c.from.ensures v c.index_mut.ensures.value in
    let can =
    rw (found_book (length b.openings.opened) b.openings.rows b.overflow.queues b.queues.items c.self.invariant.0
    c.args.queue.0 c.from.result there c.from.ensures v c.index_mut.ensures.value) at r.can in (
      length b.openings.opened,
      rows_at b.openings.rows c.args.queue.0,
      tickets_at b.overflow.queues c.args.queue.0,
      right,
      can,
      c.self.invariant.1,
      c.requires.few,
    )

pub open-requires-clause-queue : goal.open-requires-clause-queue
open-requires-clause-queue c = grind (arith, rows_there, c.self.invariant.0, c.args.queue.0)

pub open-requires-clause-item : goal.open-requires-clause-item
open-requires-clause-item c = let r = rw (← c.self.view_is) at c.requires.can in r.item

pub open-requires-clause-free : goal.open-requires-clause-free
open-requires-clause-free c = let r = rw (← c.self.view_is) at c.requires.can in r.one

pub open-requires-clause-latest : goal.open-requires-clause-latest
open-requires-clause-latest c =
    let b = c.self.inside in
    let r = rw (← c.self.view_is) at c.requires.can in
    rows_before (length b.openings.opened) c.args.number b.openings.rows b.overflow.queues b.queues.items
    c.index_mut.result.now c.self.invariant.0 r.latest

pub invariant_of-self : goal.invariant_of-self
invariant_of-self c =
    let b = c.self.inside in let v = c.index_mut.result.now in
    let r = rw (← c.self.view_is) at c.requires.can in
    let there = r.queue in
    let right =
    found_right (length b.openings.opened) b.openings.rows b.overflow.queues b.queues.items c.self.invariant.0
    c.args.queue.0 c.from.result there c.from.ensures v c.index_mut.ensures.value in
    let can =
    rw (found_book (length b.openings.opened) b.openings.rows b.overflow.queues b.queues.items c.self.invariant.0
    c.args.queue.0 c.from.result there c.from.ensures v c.index_mut.ensures.value) at r.can in
    let now =
    c.opened-colour.ensures (length b.openings.opened) (rows_at b.openings.rows c.args.queue.0)
    (tickets_at b.overflow.queues c.args.queue.0) right can in
    let row : Row = record { number = c.args.number; colour = c.opened-colour.result } in
    let size =
    length-set b.openings.opened c.args.item.0 (numbers_open b.openings.opened c.args.item.0 ++ c.args.number
    ∷ []) in
    rw (c.open.ensures, size) (
      both_right (length b.openings.opened) b.openings.rows b.overflow.queues b.queues.items c.self.invariant.0
          c.args.queue.0 c.from.result there c.from.ensures (rows_at b.openings.rows c.args.queue.0 ++ row ∷ [])
          c.opened-colour.new.self now.0,
      c.self.invariant.1,
    )

pub returns : goal.returns
returns c =
    let b = c.self.inside in let v = c.index_mut.result.now in
    let r = rw (← c.self.view_is) at c.requires.can in
    let there = r.queue in
    let right =
    found_right (length b.openings.opened) b.openings.rows b.overflow.queues b.queues.items c.self.invariant.0
    c.args.queue.0 c.from.result there c.from.ensures v c.index_mut.ensures.value in
    let can =
    rw (found_book (length b.openings.opened) b.openings.rows b.overflow.queues b.queues.items c.self.invariant.0
    c.args.queue.0 c.from.result there c.from.ensures v c.index_mut.ensures.value) at r.can in
    let now =
    c.opened-colour.ensures (length b.openings.opened) (rows_at b.openings.rows c.args.queue.0)
    (tickets_at b.overflow.queues c.args.queue.0) right can in
    let row : Row = record { number = c.args.number; colour = c.opened-colour.result } in
    let book =
    found_book (length b.openings.opened) b.openings.rows b.overflow.queues b.queues.items c.self.invariant.0
    c.args.queue.0 c.from.result there c.from.ensures v c.index_mut.ensures.value in
    let size =
    length-set b.openings.opened c.args.item.0 (numbers_open b.openings.opened c.args.item.0 ++ c.args.number
    ∷ []) in
    rw (c.open.ensures, size, ← c.self.view_is)
    (ap (λ (bs : List FlushBook). let s : FlushState =
    record {
      room = b.overflow.room;
      books = bs;
      opened =
          set b.openings.opened c.args.item.0 (numbers_open b.openings.opened c.args.item.0 ++ c.args.number ∷ []);
    } in s)
    (both_books (length b.openings.opened) b.openings.rows b.overflow.queues b.queues.items c.self.invariant.0
    c.args.queue.0 c.from.result there c.from.ensures (rows_at b.openings.rows c.args.queue.0 ++ row ∷ [])
    c.opened-colour.new.self _ (now.1 ∙ ap (λ (o : FlushBook). flushes_with_open o c.args.number) (sym book))))
