use Rattle.cmwq_monitor.specs.Common.{◌≡◌, ◌∙◌, ap, sym, refl, false, inr, rules, past_of, has_room}
use Rattle.cmwq_model.specs.declared.call.Call.TheVariants as calls
use Rattle.std.specs.Prelude.{is_ok}
use Rattle.cmwq_monitor.specs.Held.{Held}
use Rattle.cmwq_monitor.proofs.Entering.{room_is}
use Rattle.cmwq_monitor.proofs.Allowed.{worker_may_begin}
use Rattle.cmwq_monitor.proofs.monitor.Monitor.retire.Goals as goal

pub returns-in_default-clause-kept : goal.returns-in_default-clause-kept
returns-in_default-clause-kept g c =
    let s = g.N.HubName.layout in
    let log = c.args.self.now.history in
    let v = c.args.participant.now in
    let held : c.self.inside.dispatch.history.entries ≡ log = ap (λ (h : Held). h.history) c.self.view_is in
    let full : has_room s s.room (past_of log) v.who calls.Retire ≡ false =
    room_is s c.self.inside.dispatch.history log c.who-who.result v.who calls.Retire false c.self.invariant.0
    c.self.invariant.1 held c.who-who.ensures.who (sym (ap is_ok c.in_default.is) ∙ c.plan-planned.ensures.room) in
    (refl, inr full)

pub returns-in-Ok-make-clause-retired : goal.returns-in-Ok-make-clause-retired
returns-in-Ok-make-clause-retired g c = search rules

pub make-requires-clause-begins : goal.make-requires-clause-begins
make-requires-clause-begins g c =
    worker_may_begin g.N.HubName.layout c.args.self.now c.args.participant.now calls.Retire c.requires
