use Rattle.cmwq_rt.specs.Common.{◌∙◌, sym, subst, View, Completes, BrokeOff}
use Rattle.std.proofs.lemmas.Result.{IfOk-at_ok, IfErr-at_err}
use Rattle.cmwq_monitor.proofs.Whole.{ended_completes, ended_broke}
use Rattle.cmwq_rt.proofs.caller.Caller.wait_out.Goals as goal

pub returns-in-Err-ended-clause-broke : goal.returns-in-Err-ended-clause-broke
returns-in-Err-ended-clause-broke g c =
    let s = g.N.HubName.layout in
    let v = c.self.inside.participant in
    let m = c.call-called.new.participant in
    let w = c.until_ended-hold.new.participant in
    let stopped = IfErr-at_err _ c.in-Err-ended.is c.until_ended-hold.ensures.stopped in
    subst (λ (u : View). BrokeOff s u c.args.call c.in-Err-ended.fault w) c.self.view_is
    (ended_broke s v m w c.args.call c.in-Ok.reply c.in-Some.ticket c.in-Err-ended.fault c.requires.waits
    (sym c.ticket.ensures ∙ c.in-Some.is) c.in-Ok.ensures.made.0 stopped)

pub returns-clause-done : goal.returns-clause-done
returns-clause-done g c =
    let s = g.N.HubName.layout in
    let v = c.self.inside.participant in
    let m = c.call-called.new.participant in
    let w = c.until_ended-hold.new.participant in
    let ended = IfOk-at_ok _ c.in-Ok-ended.is c.until_ended-hold.ensures.ended in
    subst (λ (u : View). Completes s u c.args.call c.in-Ok.reply w) c.self.view_is
    (ended_completes s v m w c.args.call c.in-Ok.reply c.in-Some.ticket c.requires.waits
    (sym c.ticket.ensures ∙ c.in-Some.is) c.in-Ok.ensures.made.0 ended)
