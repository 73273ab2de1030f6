use Rattle.cmwq_flush.specs.Common.{◌≡◌, ◌++◌, ◌∷◌, [], List, ℕ, ltb, true, false, length, sym, ap, refl, arith}
use Rattle.cmwq_flush.specs.Common.{nat_tests, get_or-set_same}
use Rattle.std.proofs.lemmas.List.{set-get_or}
use Rattle.cmwq_flush.specs.Overflow.{OverflowLists, tickets_at, with_tickets}
use Rattle.cmwq_flush.specs.Queues.{book_by}
use Rattle.cmwq_flush.proofs.Rightness.{right_served, right_overflow}
use Rattle.cmwq_flush.proofs.flushes.Flushes.begin.Goals as goal

pub returns-then-len-lt-MOST_SERVED-clause-others : goal.returns-then-len-lt-MOST_SERVED-clause-others
returns-then-len-lt-MOST_SERVED-clause-others c =
    let o = c.args.overflow.now in
    sym (ap (λ (queues : List (List ℕ)). let p : OverflowLists = record { room = o.room; queues = queues } in p)
    (set-get_or o.queues c.args.queue.0 []))

pub returns-then-len-lt-MOST_SERVED-clause-right : goal.returns-then-len-lt-MOST_SERVED-clause-right
returns-then-len-lt-MOST_SERVED-clause-right c = λ items rows is latest.
    let f = c.args.self.now in
    let overflow = tickets_at c.args.overflow.now.queues c.args.queue.0 in
    let fits : ltb (length f.served.items) 15 ≡ true = grind (arith, nat_tests) in
    let pushed = c.push_reserved.ensures in (
      record {
        right = rw pushed.items
            (right_served (book_by items rows overflow f) rows f.colours c.args.ticket (omega arith) latest is.right);
        tally = is.tally;
        served_room = rw pushed.capacity is.served_room;
      },
      rw (pushed.items, fits) refl,
    )

pub returns-else-len-lt-MOST_SERVED-clause-others : goal.returns-else-len-lt-MOST_SERVED-clause-others
returns-else-len-lt-MOST_SERVED-clause-others c =
    let o = c.args.overflow.now in
    let there = c.requires.queue in
    let more = tickets_at o.queues c.args.queue.0 ++ c.args.ticket ∷ [] in
    let same : tickets_at (with_tickets o c.args.queue.0 more).queues c.args.queue.0 ≡ more =
    get_or-set_same o.queues c.args.queue.0 more [] there in
    rw (c.push_back.ensures, same) refl

pub returns-else-len-lt-MOST_SERVED-clause-right : goal.returns-else-len-lt-MOST_SERVED-clause-right
returns-else-len-lt-MOST_SERVED-clause-right c = λ items rows is latest.
    let f = c.args.self.now in
    let o = c.args.overflow.now in
    let there = c.requires.queue in
    let overflow = tickets_at o.queues c.args.queue.0 in
    let full : ltb (length f.served.items) 15 ≡ false = grind (arith, nat_tests) in
    let more : List ℕ = overflow ++ c.args.ticket ∷ [] in
    let same : tickets_at (with_tickets o c.args.queue.0 more).queues c.args.queue.0 ≡ more =
    get_or-set_same o.queues c.args.queue.0 more [] there in (
      record {
        right = rw (c.push_back.ensures, same)
            (right_overflow (book_by items rows overflow f) rows f.colours c.args.ticket (omega arith) latest is.right);
        tally = is.tally;
        served_room = is.served_room;
      },
      rw (c.push_back.ensures, same, full) refl,
    )
