use Rattle.std.proofs.Common.{◌<◌, [], length}
use Rattle.cmwq_pwq.specs.Pwqs.{PwqState}
use Rattle.cmwq_pwq.proofs.Passes.{read_count}
use Rattle.cmwq_pwq.proofs.Behind.{ended_makes_way, ended_over_width, ended_alone, none_of_rest}
use Rattle.cmwq_pwq.proofs.pwqs.Pwqs.end_active.Goals.{then-index-width+in-None, else-index-width}
use Rattle.cmwq_pwq.proofs.pwqs.Pwqs.end_active.Goals as goal

pub returns-in-Some-clause-passed : goal.returns-in-Some-clause-passed
returns-in-Some-clause-passed c =
    let b = c.self.inside in let x = c.args.queueing in
    let l : PwqState =
    record { items = b.waiting.items; counts = b.counts.items; waiting = b.waiting.queueings; activated = [] } in
    let r = rw (← c.self.view_is) at c.requires in
    let inside : c.place_of-at.result < length b.counts.items = rw c.place_of-at.ensures r.place in
    let seen =
    read_count b.counts.items x c.place_of-at.result c.index.result.now c.place_of-at.ensures inside
    c.index.ensures in
    rw (← c.self.view_is) (λ wide is behind.
    rw (c.push_reserved.ensures.items, r.none, c.take_first.ensures.others)
    (ended_makes_way wide l x r.cpu r.place r.active r.counted behind c.take_first.new.self.queueings c.in-Some.next
    (rw (is, ← seen) c.if-index-width.true) c.in-Some.ensures.taken))

pub returns-clause-passed : goal.returns-clause-passed
returns-clause-passed c =
    let b = c.self.inside in let x = c.args.queueing in
    let l : PwqState =
    record { items = b.waiting.items; counts = b.counts.items; waiting = b.waiting.queueings; activated = [] } in
    let r = rw (← c.self.view_is) at c.requires in
    let inside : c.place_of-at.result < length b.counts.items = rw c.place_of-at.ensures r.place in
    let seen =
    read_count b.counts.items x c.place_of-at.result c.index.result.now c.place_of-at.ensures inside
    c.index.ensures in
    elim c.if-index-width.branch [
      | then-index-width+in-None w ↦
          let read =
          read_count b.counts.items x c.place_of-at.result c.index_mut.result.now c.place_of-at.ensures inside
          (rw w.self-inside-is at c.index_mut.ensures.value) in
          rw (w.self-inside-is, ← c.self.view_is) (λ wide is behind.
          rw (w.in-None.ensures.same, r.none, read, c.place_of-at.ensures)
          (ended_alone wide l x r.cpu r.place r.active r.counted behind w.in-None.ensures.none))
      | else-index-width w ↦
          let read =
          read_count b.counts.items x c.place_of-at.result c.index_mut.result.now c.place_of-at.ensures inside
          (rw w.self-inside-is at c.index_mut.ensures.value) in
          rw (w.self-inside-is, ← c.self.view_is) (λ wide is behind.
          rw (r.none, read, c.place_of-at.ensures)
          (ended_over_width wide l x r.cpu r.place r.active r.counted behind
          (rw (is, ← seen) w.if-index-width.false)))
    ]

pub returns-in-Some-clause-none_anew : goal.returns-in-Some-clause-none_anew
returns-in-Some-clause-none_anew c =
    let b = c.self.inside in
    rw (← c.self.view_is)
    (none_of_rest c.args.queueing.place.queue.0 c.args.queueing.place.cpu.0 b.waiting.queueings
    c.take_first.new.self.queueings c.in-Some.next c.in-Some.ensures.taken)

pub returns-clause-none_anew : goal.returns-clause-none_anew
returns-clause-none_anew c =
    elim c.if-index-width.branch [
      | then-index-width+in-None w ↦ rw (w.self-inside-is, ← c.self.view_is, w.in-None.ensures.same) (λ i none. none)
      | else-index-width w ↦ rw (w.self-inside-is, ← c.self.view_is) (λ i none. none)
    ]
