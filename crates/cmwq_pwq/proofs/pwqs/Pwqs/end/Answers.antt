use Rattle.cmwq_pwq.specs.Common.{◌≡◌, ◌<◌, ◌∙◌, false, sym, length}
use Rattle.cmwq_pwq.specs.Pwqs.{PwqState, is_waiting}
use Rattle.cmwq_pwq.proofs.Passes.{read_count}
use Rattle.cmwq_pwq.proofs.Behind.{active_ended}
use Rattle.cmwq_pwq.proofs.pwqs.Pwqs.end.Goals as goal

pub returns-then-not-take : goal.returns-then-not-take
returns-then-not-take c =
    let b = c.self.inside in let x = c.args.queueing in
    let l : PwqState =
    record {
      items = b.waiting.items;
      counts = b.counts.items;
      waiting = b.waiting.queueings;
      activated =
          b.activated.items;
    } in
    let r = rw (← c.self.view_is) at c.requires in
    let fails : is_waiting l x ≡ false = sym c.take.ensures.waited ∙ c.if-not-take.true in
    let inside : c.place_of.result < length b.counts.items = rw c.place_of.ensures r.place in
    let read =
    read_count b.counts.items x c.place_of.result c.index_mut.result.now c.place_of.ensures inside
    c.index_mut.ensures.value in
    rw (c.take.ensures.rest, read, c.place_of.ensures, ← c.self.view_is) (active_ended l x fails)
