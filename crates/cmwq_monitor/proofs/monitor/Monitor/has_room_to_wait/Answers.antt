use Rattle.cmwq_monitor.specs.Common.{◌≡◌, History, Who, true}
use Rattle.std.proofs.Common.{◌∙◌, ap, sym}
use Rattle.std.specs.Prelude.{◌&&◌}
use Rattle.cmwq_core.specs.History.{takes, takes_with}
use Rattle.cmwq_model.specs.declared.call.Call.TheVariants as calls
use Rattle.cmwq_monitor.proofs.Sleepers.{history_is}
use Rattle.cmwq_monitor.specs.Held.{Held, history_of}
use Rattle.cmwq_monitor.proofs.monitor.Monitor.has_room_to_wait.Goals as goal

pub returns-then-is_ok : goal.returns-then-is_ok
returns-then-is_ok g c =
    let s = g.N.HubName.layout in
    let h = c.self.inside.dispatch.history in
    let now = history_of s c.args.self.now.history in
    let same : now ≡ h = sym (ap (λ (x : Held). history_of s x.history) c.self.view_is)
    ∙ history_is s h c.self.invariant.0 c.self.invariant.1 in
    let sleeps : takes now c.args.worker.now.who calls.Sleep ≡ true =
    ap (λ (x : History). takes x c.args.worker.now.who calls.Sleep) same
    ∙ ap (λ (x : Who). takes h x calls.Sleep) (sym c.who.ensures.who) ∙ sym c.plan.ensures.room
    ∙ sym c.if-is_ok.ensures.value in
    let rest = takes_with now c.args.caller.now.who c.args.call 2 in
    c.has_room_with.ensures
    ∙ ap (λ (x : History). takes_with x c.who-then-is_ok.result c.args.call 2) (c.execution.ensures ∙ sym same)
    ∙ ap (λ (x : Who). takes_with now x c.args.call 2) c.who-then-is_ok.ensures.who ∙ sym (ap (λ b. b && rest) sleeps)
