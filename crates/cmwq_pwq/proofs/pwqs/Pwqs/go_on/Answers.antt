use Rattle.std.proofs.Common.{sym}
use Rattle.cmwq_pwq.specs.Pwqs.{pwqs_after_end, width_by}
use Rattle.cmwq_pwq.proofs.pwqs.Pwqs.go_on.Goals as goal

pub returns-in-Some : goal.returns-in-Some
returns-in-Some c =
    rw c.in-Some.is
    (c.open_one.ensures (width_by c.args.queues.now c.args.most.now c.args.frozen)
    (pwqs_after_end c.args.ended c.args.self.now) (sym c.width_by-width.ensures)
    (sym c.end_some.ensures.passed.many) c.end_some.ensures.passed)

pub open_one-requires-clause-may : goal.open_one-requires-clause-may
open_one-requires-clause-may c =
    let r = rw c.in-Some.is at c.requires.opened in
    let passed = c.end_some.ensures.passed in
    record {
      item = rw passed.items r.item;
      cpu = r.cpu;
      place = rw passed.many r.place;
      free =
          c.end_some.ensures.none_anew c.in-Some.queueing.item.0 r.free;
    }
