use Rattle.cmwq_rt.specs.Common.{◌∙◌, subst, Extends, View}
use Rattle.cmwq_model.specs.declared.call.Call.TheVariants as calls
use Rattle.cmwq_model.specs.declared.reply.Reply.TheVariants as replies
use Rattle.cmwq_monitor.specs.Whole.{Stops}
use Rattle.std.specs.Prelude.{Some}
use Rattle.cmwq_rt.specs.Common.{is_caller, sym, true, ◌≡◌}
use Rattle.cmwq_rt.proofs.Registered.{when_never_ready, when_registered}
use Rattle.cmwq_rt.proofs.Running.{when_done}
use Rattle.cmwq_rt.proofs.hub.Hub.until_done.Goals as goal

pub returns-in-Ok-Done-clause-done : goal.returns-in-Ok-Done-clause-done
returns-in-Ok-Done-clause-done g c =
    subst (λ (v : View). Extends g.N.HubName.layout v (calls.End c.args.ticket) replies.Done
    c.end_or_sleep.new.participant) c.loop.invariant.2
    (when_done _ _ c.in-Ok-Done.field-0 c.in-Ok-Done.field-0-is c.in-Ok-Done.ensures.done).0

pub returns-in-Err-clause-stopped : goal.returns-in-Err-clause-stopped
returns-in-Err-clause-stopped g c = (
  c.in-Err.ensures.stopped.0 ∙ c.loop.invariant.2,
  subst (λ (v : View). Stops v (Some c.args.ticket) c.in-Err.fault) c.loop.invariant.2 c.in-Err.ensures.stopped.1,
)

pub sleep_for-hold-requires : goal.sleep_for-hold-requires
sleep_for-hold-requires g c =
    when_registered _ _ _ _ _ _ (subst (λ (v : View). is_caller v.who ≡ true) (sym c.loop.invariant.2) c.requires)
    c.who.result c.who.ensures.who _ c.in-Ok-Not-Sleeps.field-0
    c.in-Ok-Not-Sleeps.field-0-0 c.in-Ok-Not-Sleeps.field-0-is c.in-Ok-Not-Sleeps.field-0-0-is
    c.in-Ok-Not-Sleeps.ensures.done c.in-Ok-Not-Sleeps.ensures.waits

pub sleep_for-hold-requires-in-Ok-Not-Over : goal.sleep_for-hold-requires-in-Ok-Not-Over
sleep_for-hold-requires-in-Ok-Not-Over g c =
    when_never_ready _ _ _ _ _ _ (subst (λ (v : View). is_caller v.who ≡ true) (sym c.loop.invariant.2) c.requires)
    c.who-in-Ok-Not-Over.result c.who-in-Ok-Not-Over.ensures.who _ c.in-Ok-Not-Over.field-0
    c.in-Ok-Not-Over.field-0-0 c.in-Ok-Not-Over.field-0-is c.in-Ok-Not-Over.field-0-0-is
    c.in-Ok-Not-Over.ensures.done c.in-Ok-Not-Over.ensures.waits
