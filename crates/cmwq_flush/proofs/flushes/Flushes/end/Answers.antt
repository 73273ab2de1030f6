use Rattle.cmwq_flush.specs.Common.{◌≡◌, List, [], ℕ, sym, refl, get_or-set_same}
use Rattle.cmwq_flush.specs.FlushBook.{without_oldest}
use Rattle.cmwq_flush.specs.Numbers.{without}
use Rattle.cmwq_flush.specs.Overflow.{tickets_at, with_tickets}
use Rattle.cmwq_flush.specs.Queues.{book_by}
use Rattle.cmwq_flush.proofs.Rightness.{right_end, right_left, served_rise, overflow_rises, in_overflow, ready_rows}
use Rattle.cmwq_flush.proofs.Rightness.{after_end-served, after_end-overflow}
use Rattle.cmwq_flush.proofs.flushes.Flushes.end.Goals as goal

pub find_served-requires : goal.find_served-requires
find_served-requires c = let r = c.requires.right in let o = tickets_at c.args.overflow.now.queues c.args.queue.0 in
    rw c.deref.ensures.value
    (served_rise (book_by r.0 r.1 o c.args.self.now) r.1 c.args.self.now.colours c.args.ticket r.2.right)

pub remove-requires-in-None-clause-rise : goal.remove-requires-in-None-clause-rise
remove-requires-in-None-clause-rise c = let r = c.requires.right in let o =
    tickets_at c.args.overflow.now.queues c.args.queue.0 in
    overflow_rises (book_by r.0 r.1 o c.args.self.now) r.1 c.args.self.now.colours c.args.ticket r.2.right

pub remove-requires-in-None-clause-stands : goal.remove-requires-in-None-clause-stands
remove-requires-in-None-clause-stands c =
    let r = c.requires.right in let o = tickets_at c.args.overflow.now.queues c.args.queue.0 in
    let absent = rw c.deref.ensures.value at c.in-None.ensures.absent in
    in_overflow (book_by r.0 r.1 o c.args.self.now) r.1 c.args.self.now.colours c.args.ticket r.2.right absent r.3

pub returns-in-Some-clause-others : goal.returns-in-Some-clause-others
returns-in-Some-clause-others c =
    let o = c.args.overflow.now in
    let there = c.requires.queue in
    let left : List ℕ = without_oldest (tickets_at o.queues c.args.queue.0) in
    let same : tickets_at (with_tickets o c.args.queue.0 left).queues c.args.queue.0 ≡ left =
    get_or-set_same o.queues c.args.queue.0 left [] there in
    rw (c.serve_oldest.ensures.overflow, same) refl

pub returns-in-Some-clause-right : goal.returns-in-Some-clause-right
returns-in-Some-clause-right c = λ items rows is stands is_ready.
    let f = c.args.self.now in
    let o = c.args.overflow.now in
    let there = c.requires.queue in
    let overflow = tickets_at o.queues c.args.queue.0 in
    let left : List ℕ = without_oldest overflow in
    let same : tickets_at (with_tickets o c.args.queue.0 left).queues c.args.queue.0 ≡ left =
    get_or-set_same o.queues c.args.queue.0 left [] there in
    let at = rw c.deref.ensures.value at c.in-Some.ensures.found in
    let served = c.serve_oldest.ensures in
    let rows_are_ready =
    ready_rows (book_by items rows overflow f) rows f.colours c.args.ticket is.right c.in-Some.place refl at
    is_ready in (
      record {
        right = rw (served.served, served.overflow, same, c.remove.ensures.items, c.free_colour.ensures)
            (right_end (book_by items rows overflow f) rows f.colours c.in-Some.place at.0 rows_are_ready is.right);
        tally = is.tally;
        served_room = rw (served.capacity, c.remove.ensures.capacity) is.served_room;
      },
      rw (served.served, served.overflow, same, c.remove.ensures.items)
          (sym (after_end-served (book_by items rows overflow f) rows f.colours c.args.ticket is.right c.in-Some.place
          at)),
    )

pub returns-in-None-clause-others : goal.returns-in-None-clause-others
returns-in-None-clause-others c =
    let o = c.args.overflow.now in
    let there = c.requires.queue in
    let left : List ℕ = without c.args.ticket (tickets_at o.queues c.args.queue.0) in
    let same : tickets_at (with_tickets o c.args.queue.0 left).queues c.args.queue.0 ≡ left =
    get_or-set_same o.queues c.args.queue.0 left [] there in
    rw (c.remove-in-None.ensures, same) refl

pub returns-in-None-clause-right : goal.returns-in-None-clause-right
returns-in-None-clause-right c = λ items rows is stands is_ready.
    let f = c.args.self.now in
    let o = c.args.overflow.now in
    let there = c.requires.queue in
    let overflow = tickets_at o.queues c.args.queue.0 in
    let left : List ℕ = without c.args.ticket overflow in
    let same : tickets_at (with_tickets o c.args.queue.0 left).queues c.args.queue.0 ≡ left =
    get_or-set_same o.queues c.args.queue.0 left [] there in
    let absent = rw c.deref.ensures.value at c.in-None.ensures.absent in (
      record {
        right = rw (c.remove-in-None.ensures, same)
            (right_left (book_by items rows overflow f) rows f.colours c.args.ticket is.right);
        tally = is.tally;
        served_room = is.served_room;
      },
      rw (c.remove-in-None.ensures, same)
          (sym (after_end-overflow (book_by items rows overflow f) rows f.colours c.args.ticket is.right absent)),
    )
