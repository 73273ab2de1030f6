use Rattle.std.proofs.Common.{◌<◌, length}
use Rattle.cmwq_pwq.specs.Pwqs.{PwqState, place_of}
use Rattle.cmwq_pwq.proofs.Passes.{read_count}
use Rattle.cmwq_pwq.proofs.Behind.{opened_active, opened_waits}
use Rattle.cmwq_pwq.proofs.pwqs.Pwqs.open_one.Goals as goal

pub returns-then-index-width : goal.returns-then-index-width
returns-then-index-width c =
    let b = c.self.inside in let x = c.args.queueing in
    let l : PwqState =
    record {
      items = b.waiting.items;
      counts = b.counts.items;
      waiting = b.waiting.queueings;
      activated =
          b.activated.items;
    } in
    let at : place_of x.place.queue.0 x.place.cpu.0 < length b.counts.items =
    rw (← c.self.view_is) at c.requires.may.place in
    let inside : c.place_of-at.result < length b.counts.items = rw c.place_of-at.ensures at in
    let seen =
    read_count b.counts.items x c.place_of-at.result c.index.result.now c.place_of-at.ensures inside
    c.index.ensures in
    let read =
    read_count b.counts.items x c.place_of-at.result c.index_mut.result.now c.place_of-at.ensures inside
    c.index_mut.ensures.value in
    rw (← c.self.view_is) (λ wide before is many passed.
    rw (c.push_reserved.ensures.items, read, c.place_of-at.ensures)
    (opened_active wide l x c.requires.may.cpu at before many passed (rw (is, ← seen) c.if-index-width.true)))

pub returns-else-index-width : goal.returns-else-index-width
returns-else-index-width c =
    let b = c.self.inside in let x = c.args.queueing in
    let l : PwqState =
    record {
      items = b.waiting.items;
      counts = b.counts.items;
      waiting = b.waiting.queueings;
      activated =
          b.activated.items;
    } in
    let at : place_of x.place.queue.0 x.place.cpu.0 < length b.counts.items =
    rw (← c.self.view_is) at c.requires.may.place in
    let inside : c.place_of-at.result < length b.counts.items = rw c.place_of-at.ensures at in
    let seen =
    read_count b.counts.items x c.place_of-at.result c.index.result.now c.place_of-at.ensures inside
    c.index.ensures in
    rw (← c.self.view_is) (λ wide before is many passed.
    rw c.push_back.ensures
    (opened_waits wide l x c.requires.may.cpu at before many passed (rw (is, ← seen) c.if-index-width.false)))
