use Rattle.cmwq_flush.specs.Common.{refl}
use Rattle.cmwq_flush.specs.Queues.{book_by}
use Rattle.cmwq_flush.proofs.Rightness.{served_rise, served_at, not_served}
use Rattle.cmwq_flush.proofs.flushes.Flushes.is_served.Goals as goal

pub find_served-requires : goal.find_served-requires
find_served-requires c = let r = c.requires in
    rw c.deref.ensures.value
    (served_rise (book_by r.0 r.1 r.2 c.args.self.now) r.1 c.args.self.now.colours c.args.ticket r.3.right)

pub returns-in-Some : goal.returns-in-Some
returns-in-Some c = λ items rows overflow is.
    let f = c.args.self.now in
    let at = rw c.deref.ensures.value at c.in-Some.ensures.found in
    rw (served_at (book_by items rows overflow f) rows f.colours c.args.ticket is.right _ at) refl

pub returns-in-None : goal.returns-in-None
returns-in-None c = λ items rows overflow is.
    let f = c.args.self.now in
    let absent = rw c.deref.ensures.value at c.in-None.ensures.absent in
    rw (not_served (book_by items rows overflow f) rows f.colours c.args.ticket is.right absent) refl
