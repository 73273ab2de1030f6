use Rattle.std.specs.Prelude.{◌++◌, ◌∷◌, []}
use Rattle.cmwq_rt.specs.Common.{◌≡◌, ◌∙◌, sym, subst, View, Completes, BrokeOff, IsPrefix, made_by, prefix_self}
use Rattle.cmwq_monitor.specs.Calls.{own_entry}
use Rattle.cmwq_monitor.specs.Held.{Held}
use Rattle.cmwq_rt.proofs.Sleeping.{made_when, next_stays}
use Rattle.std.proofs.lemmas.Result.{IfOk-at_ok, IfErr-at_err}
use Rattle.cmwq_monitor.proofs.Whole.{ended_completes, ended_broke}
use Rattle.cmwq_rt.proofs.caller.Caller.wait_in_run.Goals as goal

pub returns-in-Err-ended-clause-broke : goal.returns-in-Err-ended-clause-broke
returns-in-Err-ended-clause-broke g c =
    let s = g.N.HubName.layout in
    let v = c.self.inside.participant in
    let m = c.call_in_run-called.new.participant in
    let w = c.until_ended-hold.new.participant in
    let stopped = IfErr-at_err _ c.in-Err-ended.is c.until_ended-hold.ensures.stopped in
    subst (λ (u : View). BrokeOff s u c.args.call c.in-Err-ended.fault w) c.self.view_is
    (ended_broke s v m w c.args.call c.in-Ok.reply c.in-Some.ticket c.in-Err-ended.fault c.requires.waits
    (sym c.ticket.ensures ∙ c.in-Some.is) c.in-Ok.ensures.made.0 stopped)

pub returns-clause-done : goal.returns-clause-done
returns-clause-done g c =
    let s = g.N.HubName.layout in
    let v = c.self.inside.participant in
    let m = c.call_in_run-called.new.participant in
    let w = c.until_ended-hold.new.participant in
    let ended = IfOk-at_ok _ c.in-Ok-ended.is c.until_ended-hold.ensures.ended in
    subst (λ (u : View). Completes s u c.args.call c.in-Ok.reply w) c.self.view_is
    (ended_completes s v m w c.args.call c.in-Ok.reply c.in-Some.ticket c.requires.waits
    (sym c.ticket.ensures ∙ c.in-Some.is) c.in-Ok.ensures.made.0 ended)

pub returns-clause-nothing_yet : goal.returns-clause-nothing_yet
returns-clause-nothing_yet g c =
    let v = c.self.inside.participant in
    let made =
    made_when g.N.HubName.layout v c.call_in_run-called.new.participant _ c.args.call c.in-Ok.reply
    c.in-Ok.ensures.made.0 c.in-Ok.ensures.seen in
    subst (λ (u : View). made_by u.who c.args.hold.monitor.value.history ≡ made_by u.who u.seen) c.self.view_is
    (subst (λ (h : Held). made_by v.who h.history ≡ made_by v.who v.seen) c.deref_mut.ensures.value made)

pub returns-in_default-clause-nothing_yet : goal.returns-in_default-clause-nothing_yet
returns-in_default-clause-nothing_yet g c =
    let v = c.self.inside.participant in
    let made =
    made_when g.N.HubName.layout v c.call_in_run-called.new.participant _ c.args.call c.in-Ok.reply
    c.in-Ok.ensures.made.0 c.in-Ok.ensures.seen in
    subst (λ (u : View). made_by u.who c.args.hold.monitor.value.history ≡ made_by u.who u.seen) c.self.view_is
    (subst (λ (h : Held). made_by v.who h.history ≡ made_by v.who v.seen) c.deref_mut.ensures.value made)

pub returns-clause-at_once : goal.returns-clause-at_once
returns-clause-at_once g c =
    let s = g.N.HubName.layout in
    let v = c.self.inside.participant in
    let w = c.until_ended-hold.new.participant in
    let ended = IfOk-at_ok _ c.in-Ok-ended.is c.until_ended-hold.ensures.ended in
    let next = next_stays s v c.call_in_run-called.new.participant w _ c.args.call c.in-Ok.ensures.seen
    ended.gains.older in
    subst (λ (u : View). IsPrefix (c.args.hold.monitor.value.history
    ++ own_entry s c.args.hold.monitor.value.history u c.args.call ∷ []) w.seen) c.self.view_is
    (subst (λ (h : Held). IsPrefix (h.history ++ own_entry s h.history v c.args.call ∷ []) w.seen)
    c.deref_mut.ensures.value next)

pub returns-in_default-clause-at_once : goal.returns-in_default-clause-at_once
returns-in_default-clause-at_once g c =
    let s = g.N.HubName.layout in
    let v = c.self.inside.participant in
    let m = c.call_in_run-called.new.participant in
    let next = next_stays s v m m _ c.args.call c.in-Ok.ensures.seen (prefix_self m.seen) in
    subst (λ (u : View). IsPrefix (c.args.hold.monitor.value.history
    ++ own_entry s c.args.hold.monitor.value.history u c.args.call ∷ []) m.seen) c.self.view_is
    (subst (λ (h : Held). IsPrefix (h.history ++ own_entry s h.history v c.args.call ∷ []) m.seen)
    c.deref_mut.ensures.value next)
