use Rattle.cmwq_monitor.specs.Common.{◌≡◌, Caller, None, Who, false, inr, is_done, past_of, refl, subst}
use Rattle.cmwq_model.specs.Prelude.{ticket_of}
use Rattle.cmwq_model.specs.declared.call.Call.TheVariants as calls
use Rattle.cmwq_monitor.specs.Calls.{own_entry}
use Rattle.cmwq_monitor.specs.Held.{Held, held_of}
use Rattle.cmwq_monitor.specs.Sleeping.{WaitsFor}
use Rattle.cmwq_monitor.proofs.Predicted.{unknown_not_done, unready_not_done}
use Rattle.cmwq_monitor.proofs.Sleepers.{waits_for_it}
use Rattle.cmwq_monitor.proofs.Allowed.{end_may_begin}
use Rattle.cmwq_monitor.proofs.monitor.Monitor.end_or_sleep.Goals as goal

pub returns-in-Waits-clause-waits : goal.returns-in-Waits-clause-waits
returns-in-Waits-clause-waits g c =
    let s = g.N.HubName.layout in
    let i = c.self.inside in
    let old : Held = held_of i.dispatch i.tail.given i.tail.room i.writer_sleeps in
    let new : Held = held_of c.sleeps.new.self i.tail.given i.tail.room i.writer_sleeps in
    let who : Caller c.in-Caller.caller ≡ c.args.participant.now.who = c.in-Caller.ensures.who in (
      subst (λ (h : Held). is_done (own_entry s h.history c.args.participant.now (calls.End c.args.ticket)).reply
          ≡ false) c.self.view_is
          (subst (λ (w : Who). is_done (own_entry s old.history (record c.args.participant.now { who = w })
          (calls.End c.args.ticket)).reply ≡ false) who
          (unready_not_done (past_of old.history) c.in-Caller.caller c.args.ticket c.in-Waits.found c.in-Waits.ensures.0
          c.in-Waits.ensures.2 s)),
      subst (λ (h : Held). WaitsFor s h c.args.participant.now.who c.args.ticket c.sleeps.result new) c.self.view_is
          (subst (λ (w : Who). WaitsFor s old w c.args.ticket c.sleeps.result new) who
          (waits_for_it s i.dispatch c.sleeps.new.self i.tail.given i.tail.room i.writer_sleeps c.in-Caller.caller
          c.args.ticket c.in-Waits.found c.sleeps.result c.self.invariant.0 c.self.invariant.1 c.in-Waits.ensures.0
          c.sleeps.ensures)),
    )

pub returns-in-Unknown-clause-waits : goal.returns-in-Unknown-clause-waits
returns-in-Unknown-clause-waits g c =
    let s = g.N.HubName.layout in
    let i = c.self.inside in
    let old : Held = held_of i.dispatch i.tail.given i.tail.room i.writer_sleeps in
    let who : Caller c.in-Caller.caller ≡ c.args.participant.now.who = c.in-Caller.ensures.who in
    let none : ticket_of (past_of c.args.self.now.history) c.args.participant.now.who c.args.ticket ≡ None =
    subst (λ (h : Held). ticket_of (past_of h.history) c.args.participant.now.who c.args.ticket ≡ None) c.self.view_is
    (subst (λ (w : Who). ticket_of (past_of old.history) w c.args.ticket ≡ None) who c.in-Unknown.ensures) in (
      subst (λ (h : Held). is_done (own_entry s h.history c.args.participant.now (calls.End c.args.ticket)).reply
          ≡ false) c.self.view_is
          (subst (λ (w : Who). is_done (own_entry s old.history (record c.args.participant.now { who = w })
          (calls.End c.args.ticket)).reply ≡ false) who
          (unknown_not_done (past_of old.history) c.in-Caller.caller c.args.ticket c.in-Unknown.ensures s)),
      (refl, inr none),
    )

pub make-requires-clause-begins : goal.make-requires-clause-begins
make-requires-clause-begins g c =
    end_may_begin g.N.HubName.layout c.args.self.now c.args.participant.now c.args.ticket
