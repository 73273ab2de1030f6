use Rattle.cmwq_flush.specs.Common.{◌≡◌, List, ap, arith, length}
use Rattle.cmwq_flush.specs.FlushBook.{FlushBook}
use Rattle.cmwq_flush.specs.FlushBooks.{FlushState}
use Rattle.cmwq_flush.specs.Queues.{AreKeptAs, books_by}
use Rattle.cmwq_flush.proofs.Copies.{books_kept, few_served, queues_kept, served_room, written_whole}
use Rattle.cmwq_flush.proofs.Queues.{books-length}
use Rattle.cmwq_flush.proofs.books.FlushBooks.copy_from.Goals as goal

pub copy_from-requires-clause-queues : goal.copy_from-requires-clause-queues
copy_from-requires-clause-queues c =
    let s = c.self.inside in
    let o = c.other.inside in
    let books : length (books_by (length s.openings.opened) s.openings.rows s.overflow.queues s.queues.items)
    ≡ length (books_by (length o.openings.opened) o.openings.rows o.overflow.queues o.queues.items) =
    rw (← c.self.view_is, ← c.other.view_is) at c.requires.queues in
    let are = c.self.invariant.0 in
    let others = c.other.invariant.0 in
    let own =
    books-length (length s.openings.opened) s.openings.rows s.overflow.queues s.queues.items are.many are.lists in
    let their =
    books-length (length o.openings.opened) o.openings.rows o.overflow.queues o.queues.items others.many others.lists in
    omega arith

pub copy_from-requires-2-clause-queues : goal.copy_from-requires-2-clause-queues
copy_from-requires-2-clause-queues c =
    let s = c.self.inside in
    let o = c.other.inside in
    let books : length (books_by (length s.openings.opened) s.openings.rows s.overflow.queues s.queues.items)
    ≡ length (books_by (length o.openings.opened) o.openings.rows o.overflow.queues o.queues.items) =
    rw (← c.self.view_is, ← c.other.view_is) at c.requires.queues in
    let are = c.self.invariant.0 in
    let others = c.other.invariant.0 in
    let own =
    books-length (length s.openings.opened) s.openings.rows s.overflow.queues s.queues.items are.many are.lists in
    let their =
    books-length (length o.openings.opened) o.openings.rows o.overflow.queues o.queues.items others.many others.lists in
    omega arith

pub copy_queues-requires-clause-many : goal.copy_queues-requires-clause-many
copy_queues-requires-clause-many c =
    let s = c.self.inside in
    let o = c.other.inside in
    let books : length (books_by (length s.openings.opened) s.openings.rows s.overflow.queues s.queues.items)
    ≡ length (books_by (length o.openings.opened) o.openings.rows o.overflow.queues o.queues.items) =
    rw (← c.self.view_is, ← c.other.view_is) at c.requires.queues in
    let are = c.self.invariant.0 in
    let others = c.other.invariant.0 in
    let own =
    books-length (length s.openings.opened) s.openings.rows s.overflow.queues s.queues.items are.many are.lists in
    let their =
    books-length (length o.openings.opened) o.openings.rows o.overflow.queues o.queues.items others.many others.lists in
    rw (c.deref_mut.ensures.value, c.deref.ensures.value) (omega arith)

pub copy_queues-requires-clause-few : goal.copy_queues-requires-clause-few
copy_queues-requires-clause-few c =
    let o = c.other.inside in
    rw c.deref.ensures.value
    (few_served (length o.openings.opened) o.openings.rows o.overflow.queues o.queues.items c.other.invariant.0)

pub copy_queues-requires-clause-room : goal.copy_queues-requires-clause-room
copy_queues-requires-clause-room c =
    let s = c.self.inside in
    rw c.deref_mut.ensures.value
    (served_room (length s.openings.opened) s.openings.rows s.overflow.queues s.queues.items c.self.invariant.0)

pub invariant_of-self : goal.invariant_of-self
invariant_of-self c =
    let s = c.self.inside in
    let o = c.other.inside in
    let books : length (books_by (length s.openings.opened) s.openings.rows s.overflow.queues s.queues.items)
    ≡ length (books_by (length o.openings.opened) o.openings.rows o.overflow.queues o.queues.items) =
    rw (← c.self.view_is, ← c.other.view_is) at c.requires.queues in
    let are = c.self.invariant.0 in
    let others = c.other.invariant.0 in
    let own =
    books-length (length s.openings.opened) s.openings.rows s.overflow.queues s.queues.items are.many are.lists in
    let their =
    books-length (length o.openings.opened) o.openings.rows o.overflow.queues o.queues.items others.many others.lists in
    let kept : AreKeptAs c.copy_queues.new.queues o.queues.items = rw c.deref.ensures.value at c.copy_queues.ensures in
    let whole =
    written_whole s.queues.len c.copy_queues.new.queues s.queues.items
    (let many = kept.0 in omega (arith, s.queues.ok.0)) in
    rw (c.copy_from.ensures, c.copy_from-2.ensures, whole) (
      queues_kept (length o.openings.opened) o.openings.rows o.overflow.queues c.copy_queues.new.queues o.queues.items
          kept others,
      c.other.invariant.1,
    )

pub returns : goal.returns
returns c =
    let s = c.self.inside in
    let o = c.other.inside in
    let books : length (books_by (length s.openings.opened) s.openings.rows s.overflow.queues s.queues.items)
    ≡ length (books_by (length o.openings.opened) o.openings.rows o.overflow.queues o.queues.items) =
    rw (← c.self.view_is, ← c.other.view_is) at c.requires.queues in
    let are = c.self.invariant.0 in
    let others = c.other.invariant.0 in
    let own =
    books-length (length s.openings.opened) s.openings.rows s.overflow.queues s.queues.items are.many are.lists in
    let their =
    books-length (length o.openings.opened) o.openings.rows o.overflow.queues o.queues.items others.many others.lists in
    let kept : AreKeptAs c.copy_queues.new.queues o.queues.items = rw c.deref.ensures.value at c.copy_queues.ensures in
    let whole =
    written_whole s.queues.len c.copy_queues.new.queues s.queues.items
    (let many = kept.0 in omega (arith, s.queues.ok.0)) in
    rw (c.copy_from.ensures, c.copy_from-2.ensures, whole, ← c.other.view_is)
    (ap (λ (bs : List FlushBook). let st : FlushState =
    record { room = o.overflow.room; books = bs; opened = o.openings.opened } in st)
    (books_kept (length o.openings.opened) o.openings.rows o.overflow.queues c.copy_queues.new.queues o.queues.items
    kept))
