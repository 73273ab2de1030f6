use Rattle.cmwq_flush.specs.Common.{ap, refl, ◌∙◌}
use Rattle.cmwq_flush.specs.FlushBook.{flush_from}
use Rattle.cmwq_flush.specs.Served.{served_waits_for}
use Rattle.cmwq_flush.specs.Queues.{book_by}
use Rattle.cmwq_flush.proofs.Rightness.{served_rise, served_at, not_served}
use Rattle.std.proofs.lemmas.List.{get_or_default}
use Rattle.cmwq_flush.proofs.flushes.Flushes.waits_for.Goals as goal

pub find_served-requires : goal.find_served-requires
find_served-requires c = let r = c.requires in
    rw c.deref.ensures.value
    (served_rise (book_by r.0 r.1 r.2 c.args.self.now) r.1 c.args.self.now.colours c.args.ticket r.3.right)

pub returns-in-Some : goal.returns-in-Some
returns-in-Some c = λ items rows overflow is.
    let f = c.args.self.now in
    let at = rw c.deref.ensures.value at c.in-Some.ensures.found in
    let here =
    c.index.ensures ∙ get_or_default f.served.items c.in-Some.place c.index.result.now (flush_from 0 0) at.0 in
    rw (served_at (book_by items rows overflow f) rows f.colours c.args.ticket is.right c.in-Some.place at)
    (ap (served_waits_for c.args.number) here)

pub returns-in-None : goal.returns-in-None
returns-in-None c = λ items rows overflow is.
    let f = c.args.self.now in
    let absent = rw c.deref.ensures.value at c.in-None.ensures.absent in
    rw (not_served (book_by items rows overflow f) rows f.colours c.args.ticket is.right absent) refl
