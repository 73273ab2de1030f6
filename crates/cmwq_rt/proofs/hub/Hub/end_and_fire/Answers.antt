use Rattle.std.proofs.lemmas.Result.{IfErr-weaker, IfOk-weaker}
use Rattle.cmwq_rt.specs.Common.{◌≡◌, ◌∙◌, sym, subst, Some, IfErr, IfOk, Extends}
use Rattle.cmwq_monitor.specs.Whole.{Stops}
use Rattle.cmwq_model.specs.declared.call.Call.TheVariants as calls
use Rattle.cmwq_model.specs.declared.reply.Reply.TheVariants as replies
use Rattle.cmwq_monitor.proofs.Fired.{firing_begins}
use Rattle.cmwq_monitor.proofs.Whole.{ended_alone, ended_fired, ended_not, ended_some}
use Rattle.cmwq_rt.proofs.hub.Hub.end_and_fire.Goals as goal

pub fire_all-requires-clause-begun : goal.fire_all-requires-clause-begun
fire_all-requires-clause-begun g c =
    let done : Extends g.N.HubName.layout c.args.participant.now (calls.End c.args.ticket) replies.Done
    c.until_done-hold.new.participant =
    subst (λ r.
    IfOk r (λ _. Extends g.N.HubName.layout c.args.participant.now (calls.End c.args.ticket) replies.Done
    c.until_done-hold.new.participant)) c.in-Ok.is c.until_done-hold.ensures.done in
    firing_begins g.N.HubName.layout c.args.participant.now c.until_done-hold.new.participant
    (calls.End c.args.ticket) replies.Done done

pub returns-clause-ended : goal.returns-clause-ended
returns-clause-ended g c =
    let done : Extends g.N.HubName.layout c.args.participant.now (calls.End c.args.ticket) replies.Done
    c.until_done-hold.new.participant =
    subst (λ r.
    IfOk r (λ _. Extends g.N.HubName.layout c.args.participant.now (calls.End c.args.ticket) replies.Done
    c.until_done-hold.new.participant)) c.in-Ok.is c.until_done-hold.ensures.done in
    let s = g.N.HubName.layout in
    let v = c.args.participant.now in
    let m = c.until_done-hold.new.participant in
    let w = c.fire_all.new.participant in
    IfOk-weaker c.fire_all.result.1 _ _
    (λ _ fired. ended_fired s v m w c.args.call c.args.ticket (sym c.is_drain.ensures ∙ c.if-not-is_drain.false) done
    fired) c.fire_all.ensures.fired

pub returns-clause-stopped : goal.returns-clause-stopped
returns-clause-stopped g c =
    let done : Extends g.N.HubName.layout c.args.participant.now (calls.End c.args.ticket) replies.Done
    c.until_done-hold.new.participant =
    subst (λ r.
    IfOk r (λ _. Extends g.N.HubName.layout c.args.participant.now (calls.End c.args.ticket) replies.Done
    c.until_done-hold.new.participant)) c.in-Ok.is c.until_done-hold.ensures.done in
    let s = g.N.HubName.layout in
    let v = c.args.participant.now in
    let m = c.until_done-hold.new.participant in
    let w = c.fire_all.new.participant in
    IfErr-weaker c.fire_all.result.1 _ _
    (λ f some. ended_some s v m w c.args.call c.args.ticket f (sym c.is_drain.ensures ∙ c.if-not-is_drain.false) some.0
    done some.1) c.fire_all.ensures.stopped

pub returns-in-Err-clause-stopped : goal.returns-in-Err-clause-stopped
returns-in-Err-clause-stopped g c =
    let v = c.args.participant.now in
    let w = c.until_done-hold.new.participant in
    let stopped =
    subst (λ r. IfErr r (λ f. (w ≡ v) × Stops v (Some c.args.ticket) f)) c.in-Err.is
    c.until_done-hold.ensures.stopped in
    ended_not v w g.N.HubName.layout c.args.call c.args.ticket c.in-Err.fault stopped.0 stopped.1

pub returns-then-not-is_drain-clause-ended : goal.returns-then-not-is_drain-clause-ended
returns-then-not-is_drain-clause-ended g c =
    let done : Extends g.N.HubName.layout c.args.participant.now (calls.End c.args.ticket) replies.Done
    c.until_done-hold.new.participant =
    subst (λ r.
    IfOk r (λ _. Extends g.N.HubName.layout c.args.participant.now (calls.End c.args.ticket) replies.Done
    c.until_done-hold.new.participant)) c.in-Ok.is c.until_done-hold.ensures.done in
    ended_alone g.N.HubName.layout c.args.participant.now c.until_done-hold.new.participant c.args.call c.args.ticket
    (sym c.is_drain.ensures ∙ c.if-not-is_drain.true) done
