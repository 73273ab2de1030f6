use Rattle.cmwq_monitor.specs.Common.{◌≡◌, ◌<◌, subst, ap, sym, ◌∙◌, refl, false, List, ItemId, Entry, Who, Worker}
use Rattle.cmwq_monitor.specs.Common.{IsLegal, past_of, same_Some}
use Rattle.cmwq_model.specs.declared.call.Call.TheVariants as calls
use Rattle.cmwq_core.specs.History.{History}
use Rattle.cmwq_core.specs.Plans.{IsPlan}
use Rattle.cmwq_monitor.specs.Held.{Held, held_of}
use Rattle.cmwq_monitor.specs.Calls.{own_entry}
use Rattle.cmwq_monitor.specs.Sleeping.{RestsUntil}
use Rattle.cmwq_monitor.specs.Starts.{StartsItem}
use Rattle.cmwq_monitor.specs.Steps.{is_start}
use Rattle.cmwq_monitor.proofs.Predicted.{is_start_of, started_item, starts_there, would_not_start}
use Rattle.cmwq_monitor.proofs.Sleepers.{rests_until}
use Rattle.cmwq_monitor.proofs.Allowed.{worker_may_begin}
use Rattle.cmwq_monitor.proofs.monitor.Monitor.start_or_rest.Goals as goal

pub returns-in_default-plan_start-clause-none : goal.returns-in_default-plan_start-clause-none
returns-in_default-plan_start-clause-none g c =
    let s = g.N.HubName.layout in
    let i = c.self.inside in
    let old : Held = held_of i.dispatch i.tail.given i.tail.room i.writer_sleeps in
    let new : Held = held_of c.idles.new.self i.tail.given i.tail.room i.writer_sleeps in
    let who : Worker c.in-Worker.worker ≡ c.args.participant.now.who = c.in-Worker.ensures.who in (
      subst (λ (h : Held). is_start (own_entry s h.history c.args.participant.now calls.Take).reply ≡ false)
          c.self.view_is
          (subst (λ (w : Who). is_start (own_entry s old.history (record c.args.participant.now { who = w })
          calls.Take).reply ≡ false) who
          (rw (← c.self.invariant.0)
          (would_not_start i.dispatch.history.layout (past_of old.history) c.in-Worker.worker
          c.in_default-plan_start.ensures))),
      subst (λ (h : Held). RestsUntil s h c.args.participant.now.who c.idles.result new) c.self.view_is
          (subst (λ (w : Who). RestsUntil s old w c.idles.result new) who
          (rests_until s i.dispatch c.idles.new.self i.tail.given i.tail.room i.writer_sleeps c.in-Worker.worker
          c.idles.result c.self.invariant.0 c.self.invariant.1 c.idles.ensures.rests)),
    )

pub unreachable-requires-in_default-item : goal.unreachable-requires-in_default-item
unreachable-requires-in_default-item g c =
    let h = c.self.inside.dispatch.history in
    let legal : IsLegal h.layout (past_of h.entries) =
    subst (λ (k : History). IsLegal k.layout (past_of k.entries)) c.execution.ensures c.len-legal.ensures.legal in
    let named =
    started_item g.N.HubName.layout h (Worker c.in-Worker.worker) c.args.participant.now.who
    c.in-Some.plan.mark c.self.invariant.0 c.in-Worker.ensures.who c.requires
    c.in-Worker.ensures.there legal c.in-Some.ensures.0.mark
    (is_start_of c.in-Some.plan.mark.entry.reply c.in-Some.ensures.1) in
    c.in_default-item.not-Some named.0 named.1

pub returns-in-Ok-clause-started : goal.returns-in-Ok-clause-started
returns-in-Ok-clause-started g c =
    let s = g.N.HubName.layout in
    let h = c.self.inside.dispatch.history in
    let log = c.args.self.now.history in
    let v = c.args.participant.now in
    let held : h.entries ≡ log = ap (λ (k : Held). k.history) c.self.view_is in
    let legal : IsLegal h.layout (past_of h.entries) =
    subst (λ (k : History). IsLegal k.layout (past_of k.entries)) c.execution.ensures c.len-legal.ensures.legal in
    let who : Worker c.in-Worker.worker ≡ v.who = c.in-Worker.ensures.who in
    let planned : IsPlan h (Worker c.in-Worker.worker) calls.Take c.in-Some.plan = c.in-Some.ensures.0 in
    let named =
    started_item s h (Worker c.in-Worker.worker) v.who c.in-Some.plan.mark c.self.invariant.0 who c.requires
    c.in-Worker.ensures.there legal planned.mark
    (is_start_of c.in-Some.plan.mark.entry.reply c.in-Some.ensures.1) in
    let entry : c.in-Some.plan.mark.entry ≡ own_entry s log v calls.Take =
    planned.mark.is_next ∙ rw (← c.self.invariant.0, ← held, ← who) refl in
    let item : c.in-Some-item.item ≡ named.0 =
    same_Some c.in-Some-item.item named.0 (sym c.in-Some-item.is ∙ named.1) in
    let past : past_of h.entries ≡ past_of log = ap past_of held in
    let there : StartsItem (past_of log) (own_entry s log v calls.Take) named.0 =
    subst (λ (p : List Entry). StartsItem p (own_entry s log v calls.Take) named.0) past
    (subst (λ (e : Entry). StartsItem (past_of h.entries) e named.0) entry named.3) in
    let taken = c.in-Ok.ensures.made.0 in (
      subst (λ (i : ItemId). i.0 < s.items) (sym item) named.2,
      (
        c.in-Ok.field-0,
        taken,
        starts_there s v c.make.new.participant log c.in-Ok.field-0 c.in-Some-item.item
            taken c.in-Ok.ensures.seen
            (subst (λ (i : ItemId). StartsItem (past_of log) (own_entry s log v calls.Take) i) (sym item) there),
      ),
    )

pub make-requires-clause-begins : goal.make-requires-clause-begins
make-requires-clause-begins g c =
    worker_may_begin g.N.HubName.layout c.args.self.now c.args.participant.now calls.Take c.requires
