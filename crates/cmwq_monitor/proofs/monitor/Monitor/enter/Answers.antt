use Rattle.cmwq_monitor.specs.Common.{◌≡◌, ◌∙◌, ap, sym, refl, subst, false, IsPrefix, past_of, has_room}
use Rattle.std.specs.Prelude.{is_ok}
use Rattle.cmwq_monitor.specs.Held.{Held}
use Rattle.cmwq_monitor.proofs.Entering.{gains_seen, room_is}
use Rattle.cmwq_monitor.proofs.monitor.Monitor.enter.Goals as goal

pub returns-in-Err-clause-short : goal.returns-in-Err-clause-short
returns-in-Err-clause-short g c =
    let s = g.N.HubName.layout in
    let log = c.args.self.now.history in
    let held : c.self.inside.dispatch.history.entries ≡ log = ap (λ (h : Held). h.history) c.self.view_is in
    let v = c.args.participant.now in
    let log_is = c.prefix.ensures ∙ c.self.invariant.2 ∙ held in
    let w_is : c.see.new.self ≡ record v { seen = log } = c.see.ensures.seen ∙ rw log_is refl in
    let full : has_room s s.room (past_of log) v.who c.args.call ≡ false =
    room_is s c.self.inside.dispatch.history log c.who-who.result v.who c.args.call false
    c.self.invariant.0 c.self.invariant.1
    held c.who-who.ensures.who (sym (ap is_ok c.in-Err.is) ∙ c.plan-planned.ensures.room) in (
      rw w_is (gains_seen v log c.serial-own.ensures.own c.requires.step
          (subst (IsPrefix v.seen) log_is c.see.ensures.older)),
      (rw w_is full, refl),
    )
