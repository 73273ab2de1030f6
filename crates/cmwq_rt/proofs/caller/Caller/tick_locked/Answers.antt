use Rattle.cmwq_rt.specs.Common.{refl, subst, View, BrokeOff, Completes}
use Rattle.std.proofs.lemmas.Result.{IfOk-at_ok, IfErr-at_err}
use Rattle.cmwq_model.specs.declared.call.Call.TheVariants as calls
use Rattle.cmwq_monitor.proofs.Fired.{firing_begins}
use Rattle.cmwq_monitor.proofs.Whole.{tick_broke, tick_completes, ticks_give_none}
use Rattle.cmwq_rt.proofs.caller.Caller.tick_locked.Goals as goal

pub until_fired-hold-requires-clause-begun : goal.until_fired-hold-requires-clause-begun
until_fired-hold-requires-clause-begun g c =
    firing_begins g.N.HubName.layout c.self.inside.participant c.call-called.new.participant (calls.Tick c.args.ticks)
    c.in-Ok.reply c.in-Ok.ensures.made.0

pub returns-in-Err-fired-clause-broke : goal.returns-in-Err-fired-clause-broke
returns-in-Err-fired-clause-broke g c =
    let s = g.N.HubName.layout in
    let v = c.self.inside.participant in
    let m = c.call-called.new.participant in
    let w = c.until_fired-hold.new.participant in
    let stopped = IfErr-at_err _ c.in-Err-fired.is c.until_fired-hold.ensures.stopped in
    subst (λ (u : View). BrokeOff s u (calls.Tick c.args.ticks) c.in-Err-fired.fault w) c.self.view_is
    (tick_broke s v m w (calls.Tick c.args.ticks) c.in-Ok.reply c.in-Err-fired.fault refl
    (ticks_give_none s v m c.args.ticks c.in-Ok.reply c.in-Ok.ensures.made.0)
    stopped.0 c.in-Ok.ensures.made.0 stopped.1)

pub returns-clause-done : goal.returns-clause-done
returns-clause-done g c =
    let s = g.N.HubName.layout in
    let m = c.call-called.new.participant in
    let w = c.until_fired-hold.new.participant in
    let fired = IfOk-at_ok _ c.in-Ok-fired.is c.until_fired-hold.ensures.fired in
    subst (λ (u : View). Completes s u (calls.Tick c.args.ticks) c.in-Ok.reply w) c.self.view_is
    (tick_completes s c.self.inside.participant m w (calls.Tick c.args.ticks) c.in-Ok.reply refl c.in-Ok.ensures.made.0
    fired)
