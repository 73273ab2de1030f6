use Rattle.std.proofs.Common.{sym}
use Rattle.cmwq_pwq.specs.Pwqs.{PwqState, width_by}
use Rattle.cmwq_pwq.proofs.Behind.{ended_as, ended_waiting_as, nothing_ended}
use Rattle.cmwq_pwq.proofs.pwqs.Pwqs.end_some.Goals as goal

pub returns-in-Some-clause-passed : goal.returns-in-Some-clause-passed
returns-in-Some-clause-passed c =
    let b = c.self.inside in let wide = width_by c.args.queues.now c.args.most.now c.args.frozen in
    let l : PwqState =
    record {
      items = b.waiting.items;
      counts = b.counts.items;
      waiting = b.waiting.queueings;
      activated =
          b.activated.items;
    } in
    let r = rw (← c.self.view_is) at c.requires in
    rw (c.in-Some.is, ← c.self.view_is)
    (ended_as wide l c.in-Some.queueing c.clear.new.self.items c.end_one.new.self
    (c.end_one.ensures.passed wide (sym c.width_by-width.ensures) r.behind))

pub returns-in-None-clause-passed : goal.returns-in-None-clause-passed
returns-in-None-clause-passed c =
    let b = c.self.inside in let wide = width_by c.args.queues.now c.args.most.now c.args.frozen in
    let l : PwqState =
    record {
      items = b.waiting.items;
      counts = b.counts.items;
      waiting = b.waiting.queueings;
      activated =
          b.activated.items;
    } in
    let r = rw (← c.self.view_is) at c.requires in
    rw (c.in-None.is, ← c.self.view_is, c.clear.ensures.items) (nothing_ended wide l r.behind)

pub returns-in-Some-clause-none_anew : goal.returns-in-Some-clause-none_anew
returns-in-Some-clause-none_anew c =
    let b = c.self.inside in
    let l : PwqState =
    record {
      items = b.waiting.items;
      counts = b.counts.items;
      waiting = b.waiting.queueings;
      activated =
          b.activated.items;
    } in
    rw (c.in-Some.is, ← c.self.view_is, ended_waiting_as l c.in-Some.queueing c.clear.new.self.items)
    c.end_one.ensures.none_anew
