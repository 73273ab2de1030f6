use Rattle.cmwq_monitor.specs.Common.{◌≡◌, ◌+◌, ◌++◌, ◌∷◌, [], refl, ap, sym, ◌∙◌, subst, arith, rules, length}
use Rattle.cmwq_monitor.specs.Common.{length-append, List, IsPrefix, Entry, serial_of, past_of, IsLegal, History}
use Rattle.cmwq_state.specs.Tails.{Tailed}
use Rattle.cmwq_dispatch.specs.Asleep.{SleepOn}
use Rattle.cmwq_monitor.specs.Held.{Held, held_of}
use Rattle.cmwq_monitor.specs.Calls.{own_entry}
use Rattle.cmwq_monitor.specs.Participants.{View}
use Rattle.cmwq_monitor.proofs.Entering.{serial_after, shown_is, extends, step_after, view_after}
use Rattle.cmwq_waits.specs.Allowed.{BeginsAllowed}
use Rattle.cmwq_monitor.proofs.Allowed.{allowed_after}
use Rattle.cmwq_monitor.proofs.Sleepers.{everybody_named, steps_on}
use Rattle.cmwq_monitor.proofs.monitor.Monitor.make.Goals as goal

pub count-requires-clause-own : goal.count-requires-clause-own
count-requires-clause-own g c =
    let s = g.N.HubName.layout in
    let log = c.args.self.now.history in
    let held : c.self.inside.dispatch.history.entries ≡ log = ap (λ (h : Held). h.history) c.self.view_is in
    let v = c.args.participant.now in
    let now_is =
    shown_is s log c.prefix.result.now c.self.inside.publisher c.publish.new.self v c.args.call c.args.plan.now.mark
    c.requires.plan.mark.is_next (c.self.invariant.2 ∙ held) c.in-Ok.ensures c.prefix.ensures in
    let after : serial_of (past_of c.prefix.result.now) v.who ≡ v.serial + 1 =
    rw now_is (serial_after s log v c.args.call c.requires.step.0) in
    let own = c.serial-serial.ensures.serial in omega (arith, after, own)

pub returns-clause-made : goal.returns-clause-made
returns-clause-made g c =
    let s = g.N.HubName.layout in
    let log = c.args.self.now.history in
    let held : c.self.inside.dispatch.history.entries ≡ log = ap (λ (h : Held). h.history) c.self.view_is in
    let v = c.args.participant.now in
    let call = c.args.call in
    let now_is =
    shown_is s log c.prefix.result.now c.self.inside.publisher c.publish.new.self v call c.args.plan.now.mark
    c.requires.plan.mark.is_next (c.self.invariant.2 ∙ held) c.in-Ok.ensures c.prefix.ensures in
    let w_is : c.count.new.self ≡ view_after s log v call =
    c.count.ensures.seen ∙ rw (now_is, c.serial-serial.ensures.serial) refl in
    let reply_is : c.commit-reply.result ≡ (own_entry s log v call).reply =
    c.commit-reply.ensures.reply ∙ ap (λ (e : Entry). e.reply) c.requires.plan.mark.is_next in
    let log_is : c.commit-reply.new.self.history.entries ≡ log ++ own_entry s log v call ∷ [] =
    ap (λ (h : History). h.entries) c.commit-reply.ensures.enters.history
    ∙ ap (λ (es : List Entry). es ++ c.args.plan.now.mark.entry ∷ []) held
    ∙ ap (λ (e : Entry). log ++ e ∷ []) c.requires.plan.mark.is_next in
    let legal : IsLegal s (past_of log) =
    rw (← c.self.invariant.0, ← held, ← c.execution.ensures) c.len-len.ensures.legal in
    let pre : IsPrefix v.seen (log ++ own_entry s log v call ∷ []) =
    subst (IsPrefix v.seen) now_is c.count.ensures.older in (
      rw (reply_is, w_is) (extends s v log call c.serial-serial.ensures.own c.requires.step pre c.requires.fits legal),
      rw (w_is, log_is) (step_after s v log call c.requires.step),
    )

pub returns-clause-seen : goal.returns-clause-seen
returns-clause-seen g c =
    let s = g.N.HubName.layout in
    let log = c.args.self.now.history in
    let held : c.self.inside.dispatch.history.entries ≡ log = ap (λ (h : Held). h.history) c.self.view_is in
    let v = c.args.participant.now in
    let now_is =
    shown_is s log c.prefix.result.now c.self.inside.publisher c.publish.new.self v c.args.call c.args.plan.now.mark
    c.requires.plan.mark.is_next (c.self.invariant.2 ∙ held) c.in-Ok.ensures c.prefix.ensures in
    let w : View = record v { serial = c.serial-serial.result + 1; seen = c.prefix.result.now } in
    ap (λ (u : View). u.seen) {y = w} c.count.ensures.seen ∙ now_is

pub returns-clause-reply : goal.returns-clause-reply
returns-clause-reply g c = c.commit-reply.ensures.reply ∙ ap (λ (e : Entry). e.reply) c.requires.plan.mark.is_next

pub invariant_of-self-2 : goal.invariant_of-self-2
invariant_of-self-2 g c =
    let i = c.self.invariant in
    let layout = ap (λ (h : History). h.layout) c.commit-reply.ensures.enters.history ∙ i.0 in
    let room = ap (λ (h : History). h.room) c.commit-reply.ensures.enters.history ∙ i.1 in
    let s = g.N.HubName.layout in
    let d = c.self.inside.dispatch in
    let e = c.args.plan.now.mark.entry in
    let begins : BeginsAllowed d.first_lent s (past_of d.history.entries) e =
    subst (BeginsAllowed d.first_lent s (past_of d.history.entries)) (sym c.requires.plan.mark.is_next)
    (subst (λ (h : Held). BeginsAllowed h.first_lent s (past_of h.history)
    (own_entry s c.args.self.now.history c.args.participant.now c.args.call)) (sym c.self.view_is) c.requires.begins) in (
      layout,
      room,
      search rules,
      omega (
        arith,
        c.count.ensures.counted,
        i.3,
        ap (λ (h : History). length h.entries) c.commit-reply.ensures.enters.history,
        length-append c.self.inside.dispatch.history.entries (c.args.plan.now.mark.entry ∷ []),
      ),
      search rules,
      λ sleeps. c.sleeps_on-self-inside.ensures.wanted sleeps g.N.HubName.layout layout room
          c.sleeps_on-self-inside.result,
      allowed_after s d c.commit-reply.new.self e c.commit-reply.ensures.enters.history
          c.commit-reply.ensures.enters.first_lent begins i.6,
      c.commit-reply.ensures.enters.first_lent ∙ i.7,
    )

pub returns-clause-goes_on : goal.returns-clause-goes_on
returns-clause-goes_on g c = record {
  closed = c.commit-reply.ensures.enters.closed ∙ ap (λ (h : Held). h.closed) c.self.view_is;
  failed = c.commit-reply.ensures.enters.failed ∙ ap (λ (h : Held). h.failed) c.self.view_is;
  firing = c.commit-reply.ensures.enters.firing ∙ ap (λ (h : Held). h.firing) c.self.view_is;
  crowded = c.commit-reply.ensures.enters.crowded ∙ ap (λ (h : Held). h.crowded) c.self.view_is;
  first_lent = c.commit-reply.ensures.enters.first_lent ∙ ap (λ (h : Held). h.first_lent) c.self.view_is;
  given = ap (λ (t : Tailed Entry). t.given) c.push.ensures ∙ ap (λ (h : Held). h.given) c.self.view_is;
  keeps = ap (λ (t : Tailed Entry). t.room) c.push.ensures ∙ ap (λ (h : Held). h.keeps) c.self.view_is;
}

pub returns-clause-named : goal.returns-clause-named
returns-clause-named g c =
    let new : Held = held_of c.commit-reply.new.self c.push.new.self.given c.push.new.self.room
    c.sleeps_on-self-inside.result in
    let who : c.args.plan.now.mark.entry.who ≡ c.args.participant.now.who =
    ap (λ (e : Entry). e.who) c.requires.plan.mark.is_next in
    let asleep : c.self.inside.dispatch.asleep ≡ c.args.self.now.asleep = ap (λ (h : Held). h.asleep) c.self.view_is in
    steps_on c.args.participant.now.who c.args.self.now new c.args.wakes.now c.commit-reply.new.wakes
    c.sleeps_on-self-inside.new.wakes
    (subst (λ w. SleepOn w c.args.self.now.asleep new.asleep c.args.wakes.now c.commit-reply.new.wakes) who
    (subst (λ a. SleepOn c.args.plan.now.mark.entry.who a new.asleep c.args.wakes.now c.commit-reply.new.wakes) asleep
    c.commit-reply.ensures.named)) c.sleeps_on-self-inside.ensures.more
    (c.commit-reply.ensures.enters.crowded ∙ ap (λ (h : Held). h.crowded) c.self.view_is)
    (λ sleeps. c.sleeps_on-self-inside.ensures.named (ap (λ (h : Held). h.writer_sleeps) c.self.view_is ∙ sleeps))

pub returns-then-space-eq0-clause-named : goal.returns-then-space-eq0-clause-named
returns-then-space-eq0-clause-named g c =
    everybody_named _ _ _ _ _ c.fail.ensures.nobody c.fail.ensures.all c.fail.ensures.more

pub returns-in_default-clause-named : goal.returns-in_default-clause-named
returns-in_default-clause-named g c =
    everybody_named _ _ _ _ _ c.fail-in_default.ensures.nobody c.fail-in_default.ensures.all
    c.fail-in_default.ensures.more

pub returns-clause-all : goal.returns-clause-all
returns-clause-all g c =
    let log = c.args.self.now.history in
    let held : c.self.inside.dispatch.history.entries ≡ log = ap (λ (h : Held). h.history) c.self.view_is in
    let now_is =
    shown_is g.N.HubName.layout log c.prefix.result.now c.self.inside.publisher c.publish.new.self
    c.args.participant.now c.args.call c.args.plan.now.mark c.requires.plan.mark.is_next
    (c.self.invariant.2 ∙ held) c.in-Ok.ensures c.prefix.ensures in
    let w : View = record c.args.participant.now { serial = c.serial-serial.result + 1; seen = c.prefix.result.now } in
    ap (λ (h : History). h.entries) c.commit-reply.ensures.enters.history
    ∙ ap (λ (es : List Entry). es ++ c.args.plan.now.mark.entry ∷ []) held
    ∙ ap (λ (e : Entry). log ++ e ∷ []) c.requires.plan.mark.is_next
    ∙ sym (ap (λ (u : View). u.seen) {y = w} c.count.ensures.seen ∙ now_is)
