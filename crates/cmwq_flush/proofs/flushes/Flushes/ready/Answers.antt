use Rattle.std.proofs.Common.{refl}
use Rattle.cmwq_flush.specs.Queues.{book_by}
use Rattle.cmwq_flush.proofs.Rightness.{served_rise, rows_ready, ready_rows, told_at, told_in_overflow, empty_is_ready}
use Rattle.cmwq_flush.proofs.flushes.Flushes.ready.Goals as goal

pub find_served-requires : goal.find_served-requires
find_served-requires c = let r = c.requires in
    rw c.deref.ensures.value
    (served_rise (book_by r.0 r.1 r.2 c.args.self.now) r.1 c.args.self.now.colours c.args.ticket r.3.right)

pub returns-in-None-clause-bound : goal.returns-in-None-clause-bound
returns-in-None-clause-bound c = λ items rows overflow is stands empty.
    let f = c.args.self.now in
    let absent = rw c.deref.ensures.value at c.in-None.ensures.absent in
    let ready = empty_is_ready (book_by items rows overflow f) rows f.colours c.args.ticket is.right refl absent in
    (λ told. ready.0 (empty.0 told), λ is_ready. empty.1 (ready.1 is_ready))

pub returns-in-None-clause-colours : goal.returns-in-None-clause-colours
returns-in-None-clause-colours c = λ items rows overflow is.
    let f = c.args.self.now in
    let absent = rw c.deref.ensures.value at c.in-None.ensures.absent in
    told_in_overflow (book_by items rows overflow f) rows f.colours c.args.ticket is.right c.args.is_empty refl absent

pub returns-in-Some-clause-bound : goal.returns-in-Some-clause-bound
returns-in-Some-clause-bound c = λ items rows overflow is stands empty.
    let f = c.args.self.now in
    let at = rw c.deref.ensures.value at c.in-Some.ensures.found in
    let bound = rw c.deref-in-Some.ensures.value at c.is_served_ready.ensures.bound rows is.tally is.right.colouring in (
      λ told. rows_ready (book_by items rows overflow f) rows f.colours c.args.ticket is.right c.in-Some.place refl at
          (bound.0 told),
      λ ready. bound.1
          (ready_rows (book_by items rows overflow f) rows f.colours c.args.ticket is.right c.in-Some.place refl at
          ready),
    )

pub returns-in-Some-clause-colours : goal.returns-in-Some-clause-colours
returns-in-Some-clause-colours c = λ items rows overflow is.
    let f = c.args.self.now in
    let at = rw c.deref.ensures.value at c.in-Some.ensures.found in
    let told = rw c.deref-in-Some.ensures.value at c.is_served_ready.ensures.colours in
    told_at (book_by items rows overflow f) rows f.colours c.args.ticket is.right c.in-Some.place
    c.is_served_ready.result refl at (told rows is.tally is.right.colouring)
