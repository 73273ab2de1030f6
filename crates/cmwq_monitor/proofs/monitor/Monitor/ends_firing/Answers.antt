use Rattle.cmwq_monitor.specs.Common.{◌∙◌, ap, length, sym}
use Rattle.cmwq_dispatch.specs.Dispatched.{Dispatched}
use Rattle.cmwq_monitor.specs.Held.{Held, held_of}
use Rattle.cmwq_monitor.proofs.Allowed.{allowed_still}
use Rattle.cmwq_monitor.proofs.Sleepers.{steps_on}
use Rattle.cmwq_monitor.proofs.monitor.Monitor.ends_firing.Goals as goal

pub invariant_of-self : goal.invariant_of-self
invariant_of-self g c =
    let i = c.self.invariant in
    let layout = ap (λ (d : Dispatched). d.history.layout) c.ends_firing.ensures.new ∙ i.0 in
    let room = ap (λ (d : Dispatched). d.history.room) c.ends_firing.ensures.new ∙ i.1 in
    let entries = ap (λ (d : Dispatched). d.history.entries) c.ends_firing.ensures.new in (
      layout,
      room,
      i.2 ∙ sym entries,
      i.3 ∙ ap length (sym entries),
      i.4 ∙ sym entries,
      λ sleeps. c.sleeps_on-self-inside.ensures.wanted sleeps g.N.HubName.layout layout room
          c.sleeps_on-self-inside.result,
      allowed_still g.N.HubName.layout c.self.inside.dispatch c.ends_firing.new.self
          (ap (λ (d : Dispatched). d.history) c.ends_firing.ensures.new)
          (ap (λ (d : Dispatched). d.first_lent) c.ends_firing.ensures.new) i.6,
      ap (λ (d : Dispatched). d.first_lent) c.ends_firing.ensures.new ∙ i.7,
    )

pub returns-clause-named : goal.returns-clause-named
returns-clause-named g c who =
    let old = c.args.self.now in
    let new = held_of c.ends_firing.new.self c.self.inside.tail.given c.self.inside.tail.room
    c.sleeps_on-self-inside.result in
    steps_on who old new c.args.wakes.now c.ends_firing.new.wakes c.sleeps_on-self-inside.new.wakes
    (rw (← c.self.view_is) (c.ends_firing.ensures.named who)) c.sleeps_on-self-inside.ensures.more
    (ap (λ (d : Dispatched). d.crowded) c.ends_firing.ensures.new ∙ ap (λ (h : Held). h.crowded) c.self.view_is)
    (λ sleeps. c.sleeps_on-self-inside.ensures.named (ap (λ (h : Held). h.writer_sleeps) c.self.view_is ∙ sleeps))
