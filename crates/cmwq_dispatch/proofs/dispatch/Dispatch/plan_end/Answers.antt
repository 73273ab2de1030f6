use Rattle.std.proofs.Common.{◌≡◌, ◌∙◌, ◌<◌, Some, ap, arith, false, subst, sym, true}
use Rattle.cmwq_core.specs.Common.{is_some, past_of, unended_tickets_fit, waits_for}
use Rattle.cmwq_core.specs.History.{History, past_in}
use Rattle.cmwq_core.specs.Plans.{IsPlan}
use Rattle.cmwq_model.specs.Prelude.{is_done, ticket_of}
use Rattle.cmwq_model.specs.declared.call.Call.TheVariants as call
use Rattle.cmwq_model.specs.declared.entry.Entry.{Entry}
use Rattle.cmwq_model.specs.declared.id.Who.TheVariants.{Caller}
use Rattle.cmwq_state.proofs.Ends.{found_unended}
use Rattle.cmwq_dispatch.specs.Dispatched.{Dispatched, past_now}
use Rattle.cmwq_dispatch.proofs.Asked.{found_known, found_of_caller}
use Rattle.cmwq_dispatch.proofs.Planned.{end_is_done, ready_has_room}
use Rattle.cmwq_dispatch.proofs.dispatch.Dispatch.plan_end.Goals as goal

pub waits_for-requires-clause-there : goal.waits_for-requires-clause-there
waits_for-requires-clause-there c = let h = c.state-state.result.now in
    unended_tickets_fit h.layout (past_of h.entries) c.in-Some.found c.ticket_of.ensures.legal
    (found_unended (past_of h.entries) (Caller c.args.caller) c.args.ticket c.in-Some.found
    (sym c.ticket_of.ensures.is ∙ c.in-Some.is))

pub waits_for-requires-clause-unended : goal.waits_for-requires-clause-unended
waits_for-requires-clause-unended c =
    found_unended (past_of c.state-state.result.now.entries) (Caller c.args.caller) c.args.ticket c.in-Some.found
    (sym c.ticket_of.ensures.is ∙ c.in-Some.is)

pub returns-then-is_some : goal.returns-then-is_some
returns-then-is_some c =
    let now = c.args.self.now in
    let t = c.in-Some.found in
    let same : c.state-state.result.now ≡ now.history =
    c.state-state.ensures ∙ ap (λ (d : Dispatched). d.history) c.self.view_is in
    let of : ticket_of (past_now now) (Caller c.args.caller) c.args.ticket ≡ Some t =
    subst (λ (h : History). ticket_of (past_in h) (Caller c.args.caller) c.args.ticket ≡ Some t) same
    (sym c.ticket_of.ensures.is ∙ c.in-Some.is) in
    let caller = found_of_caller (past_now now) c.args.caller c.args.ticket t of in
    let there = c.requires in (
      of,
      record {
        caller = omega (arith, caller, there);
        call = found_known (past_now now) (Caller c.args.caller) c.args.ticket t of;
      },
      subst (λ (h : History). is_some (waits_for (past_in h) t.number t.call) ≡ true) same
          (sym (c.is_some.ensures ∙ ap is_some c.waits_for.ensures) ∙ c.if-is_some.true),
    )

pub unreachable-requires : goal.unreachable-requires
unreachable-requires c =
    let h = c.self.inside.execution in
    let t = c.in-Some.found in
    let there : c.args.caller.0 < h.layout.callers =
    subst (λ (d : Dispatched). c.args.caller.0 < d.history.layout.callers) (sym c.self.view_is) c.requires in
    let of : ticket_of (past_in h) (Caller c.args.caller) c.args.ticket ≡ Some t =
    subst (λ (g : History). ticket_of (past_in g) (Caller c.args.caller) c.args.ticket ≡ Some t) c.state-state.ensures
    (sym c.ticket_of.ensures.is ∙ c.in-Some.is) in
    let free : is_some (waits_for (past_in h) t.number t.call) ≡ false =
    subst (λ (g : History). is_some (waits_for (past_in g) t.number t.call) ≡ false) c.state-state.ensures
    (sym (c.is_some.ensures ∙ ap is_some c.waits_for.ensures) ∙ c.if-is_some.false) in
    ready_has_room h c.args.caller c.args.ticket t there c.len-len.ensures.legal c.len-len.ensures.needed of free
    (sym c.in-Err.ensures.room)

pub returns : goal.returns
returns c =
    let h = c.self.inside.execution in
    let t = c.in-Some.found in
    let of : ticket_of (past_in h) (Caller c.args.caller) c.args.ticket ≡ Some t =
    subst (λ (g : History). ticket_of (past_in g) (Caller c.args.caller) c.args.ticket ≡ Some t) c.state-state.ensures
    (sym c.ticket_of.ensures.is ∙ c.in-Some.is) in
    let free : is_some (waits_for (past_in h) t.number t.call) ≡ false =
    subst (λ (g : History). is_some (waits_for (past_in g) t.number t.call) ≡ false) c.state-state.ensures
    (sym (c.is_some.ensures ∙ ap is_some c.waits_for.ensures) ∙ c.if-is_some.false) in
    let planned : IsPlan h (Caller c.args.caller) (call.End c.args.ticket) c.in-Ok.plan = c.in-Ok.ensures.plan in (
      subst (λ (d : Dispatched). IsPlan d.history (Caller c.args.caller) (call.End c.args.ticket) c.in-Ok.plan)
          c.self.view_is planned,
      ap (λ (e : Entry). is_done e.reply) planned.mark.is_next ∙ end_is_done h c.args.caller c.args.ticket t of free,
    )
