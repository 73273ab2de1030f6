use Rattle.cmwq_rt.specs.Common.{◌≡◌, ◌∙◌, None, ap, subst, sym}
use Rattle.cmwq_monitor.specs.Held.{Held, MayWaitBy, refusal_at}
use Rattle.cmwq_monitor.proofs.Allowed.{sleep_may_begin}
use Rattle.cmwq_rt.proofs.Sleeping.{began_allowed}
use Rattle.cmwq_rt.proofs.waiting.begin_wait.Goals as goal

pub returns-in-Ok-slept-clause-begins : goal.returns-in-Ok-slept-clause-begins
returns-in-Ok-slept-clause-begins g c =
    let s = g.N.HubName.layout in
    let v = c.args.worker.now in
    let old = c.deref_mut-2.result.now in
    let held : old ≡ c.deref_mut.result.now = cc (c.deref_mut-2.ensures.value, c.caller_for.ensures.same) in
    let free : refusal_at s old v.who c.args.call ≡ None =
    subst (λ (h : Held). refusal_at s h v.who c.args.call ≡ None) (sym held) c.in-Ok.ensures.may.allowed in
    sleep_may_begin s old c.call-slept.new.self v c.call-slept.new.participant c.in-Ok.caller c.args.call free
    c.in-Ok-slept.ensures.open.1.first_lent c.in-Ok-slept.ensures.seen c.in-Ok-slept.ensures.all
    c.in-Ok-slept.ensures.made.0.legal

pub returns-in-Ok-slept-clause-allowed : goal.returns-in-Ok-slept-clause-allowed
returns-in-Ok-slept-clause-allowed g c =
    let s = g.N.HubName.layout in
    let v = c.args.worker.now in
    let old = c.deref_mut-2.result.now in
    let held : old ≡ c.deref_mut.result.now = cc (c.deref_mut-2.ensures.value, c.caller_for.ensures.same) in
    let caller = c.in-Ok.caller.who in
    began_allowed s g.N.HubName.first_lent old v c.call-slept.new.participant c.args.call caller
    (ap (λ (h : Held). h.first_lent) held ∙ c.caller_for.ensures.lent)
    (subst (λ (h : Held). MayWaitBy s h v.who c.args.call caller) (sym held) c.in-Ok.ensures.may)
    c.in-Ok-slept.ensures.seen
