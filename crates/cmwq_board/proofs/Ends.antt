-- What the ends of tickets, and the fires after them, leave as it was.
use Rattle.std.specs.Prelude.{◌≡◌, ◌≤◌, ◌<◌, ◌&&◌, ◌∷◌, [], length, ℕ, Bool, true, false, not, zero, suc, Option, Some, None, List}
use Rattle.std.specs.Prelude.{if◌then◌else◌, is_some}
use Rattle.std.proofs.Common.{refl, sym, ap, ◌∙◌, subst, arith, length-append}
use Rattle.cmwq_lemmas.proofs.Filters.{none_found}
use Rattle.cmwq_lemmas.proofs.Lists.{All_each}
use Rattle.cmwq_core.specs.History.{History, is_done_waiting, next_entry, past_in, takes}
use Rattle.cmwq_dispatch.proofs.Steady.{newest}
unfoldable use Rattle.cmwq_model.specs.Prelude.{IsLegal, is_asleep}
use Rattle.cmwq_model.specs.Prelude.{Layout, is_at, is_drain, number_cancelled, number_finished, replaces, runs_asleep}
use Rattle.cmwq_model.specs.Prelude.{is_nothing, is_of_item, is_started, still_open}
use Rattle.cmwq_model.specs.declared.call.Call.{Call}
use Rattle.cmwq_model.specs.declared.call.Call.TheVariants as call
use Rattle.cmwq_model.specs.declared.entry.Entry.{Entry}
use Rattle.cmwq_model.specs.declared.id.CallerId.{CallerId}
use Rattle.cmwq_model.specs.declared.id.Who.{Who}
use Rattle.cmwq_model.specs.declared.id.Who.TheVariants.{Caller}
use Rattle.cmwq_model.specs.declared.id.WorkerId.{WorkerId}
use Rattle.cmwq_model.specs.declared.record.Queueing.{Queueing}
use Rattle.cmwq_model.specs.declared.record.Ticket.{Ticket}
use Rattle.cmwq_model.specs.declared.reply.Reply.{Reply}
use Rattle.cmwq_theory_steps.specs.Endings.{ending, is_ended}
use Rattle.cmwq_theory_steps.proofs.Causes.{Cause, cause_of}
use Rattle.cmwq_theory_steps.proofs.Causes as cause
use Rattle.cmwq_theory_steps.proofs.RunSteps.{workers_run_on}
use Rattle.cmwq_theory_wakes.specs.Readiness.{is_unready}
use Rattle.cmwq_theory_wakes.proofs.Readiness.{released_by}
use Rattle.cmwq_board.specs.Fires.{fired_once, with_call}
unfoldable use Rattle.cmwq_board.specs.Fires.{fired}
use Rattle.cmwq_board.specs.Machine.{then_fired, ticket_ended}

-- A history goes on from a legal one. Each run sleeps as before, and no wait gets ready.
pub record Keeps (h g : History) : Type 0 where
  pub layout : g.layout ≡ h.layout
  pub longer : length h.entries ≤ length g.entries
  pub legal : IsLegal g.layout (past_in g) → IsLegal h.layout (past_in h)
  pub sleeps : IsLegal g.layout (past_in g) → (w : WorkerId) → runs_asleep (past_in g) w ≡ runs_asleep (past_in h) w
  pub waits : IsLegal g.layout (past_in g) → (t : Ticket) → is_done_waiting (past_in h) t ≡ false
      → is_done_waiting (past_in g) t ≡ false

pub keeps_same : (h g : History) → g ≡ h → Keeps h g
keeps_same h g same = record {
  layout = ap (λ (x : History). x.layout) same;
  longer = (let e = ap (λ (x : History). length x.entries) same in omega (arith, e));
  legal = λ legal. subst (λ (x : History). IsLegal x.layout (past_in x)) same legal;
  sleeps = λ legal w. ap (λ (x : History). runs_asleep (past_in x) w) same;
  waits = λ legal t unready. ap (λ (x : History). is_done_waiting (past_in x) t) same ∙ unready;
}

pub keeps_more : (a b c : History) → Keeps a b → Keeps b c → Keeps a c
keeps_more a b c one next = record {
  layout = next.layout ∙ one.layout;
  longer = (let x = one.longer in let y = next.longer in omega (arith, x, y));
  legal = λ legal. one.legal (next.legal legal);
  sleeps = λ legal w. next.sleeps legal w ∙ one.sleeps (next.legal legal) w;
  waits = λ legal t unready. next.waits legal t (one.waits (next.legal legal) t unready);
}

-- ---- a call that ends no queueing

abbrev ends_none : Call → Bool
ends_none (call.End n) = true
ends_none call.Fire = true
ends_none c = false

none_ended : (s : Layout) (past : List Entry) (who : Who) (c : Call) (r : Reply) → Cause s past who c r
    → ends_none c ≡ true → (n : ℕ) (a b : Bool)
    → (not (is_at (number_finished r) n) && not (is_at (number_cancelled r) n) && not (replaces r && a && b)) ≡ true
none_ended s past who c r (cause.misuse w k) is n a b = refl
none_ended s past who c r (cause.no w k) is n a b = refl
none_ended s past who c r (cause.foreign w k) is n a b = refl
none_ended s past who c r (cause.draining w k) is n a b = refl
none_ended s past who c r (cause.nothing w k) is n a b = refl
none_ended s past who c r (cause.idle w k) is n a b = refl
none_ended s past who c r (cause.crowded w k) is n a b = refl
none_ended s past who c r (cause.held w k) is n a b = refl
none_ended s past who c r (cause.kept w k) is n a b = refl
none_ended s past who c r (cause.gone w k) is n a b = refl
none_ended s past who c r (cause.timers w k) is n a b = refl
none_ended s past who c r (cause.waiting w k t m u) is n a b = refl
none_ended s past who c r (cause.fires w k u) is n a b = refl
none_ended s past who c r (cause.ended w k t h u) is n a b = refl
none_ended s past who c r other is n a b = cc

nothing_ends : (s : Layout) (past : List Entry) (e : Entry) → IsLegal s (e ∷ past) → ends_none e.call ≡ true
    → ending past e ≡ None
nothing_ends s past e legal is =
    none_found (is_ended past e) (still_open past)
    (All_each (λ x. is_ended past e x ≡ false) (still_open past)
    (λ (x : Queueing). ap not (none_ended s past e.who e.call e.reply (cause_of s past e legal) is x.number
    (is_of_item x.item.0 e) (not (is_started past x.number)))))

unready : (b : Bool) → not b ≡ false → b ≡ true
unready true is = refl
unready false is = cc

waits_on : (s : Layout) (past : List Entry) (e : Entry) → IsLegal s (e ∷ past) → ends_none e.call ≡ true
    → (t : Ticket) → is_done_waiting past t ≡ false → is_done_waiting (e ∷ past) t ≡ false
waits_on s past e legal none t is = by (is_unready (e ∷ past) t.number t.call) refl
  where
    by : (b : Bool) → is_unready (e ∷ past) t.number t.call ≡ b → not b ≡ false
    by true now = refl
    by false now =
        let of = released_by s past e legal t.number t.call (unready _ is) now in
        let both : None ≡ Some of.queueing = sym (nothing_ends s past e legal none) ∙ of.ends in
        cc

keeps_call : (h : History) (c : CallerId) (cl : Call) → ends_none cl ≡ true → Keeps h (with_call h (Caller c) cl)
unfolding IsLegal is_asleep
keeps_call h c cl none = record {
  layout = refl;
  longer = (let more = length-append h.entries (e ∷ []) in omega (arith, more));
  legal = λ legal. (before legal).2;
  sleeps = λ legal w. ap (λ p. runs_asleep p w) past
      ∙ ap (λ (r : Option ℕ). is_some r && is_asleep (past_in h) w)
      (workers_run_on h.layout (past_in h) e w (before legal));
  waits = λ legal t is. ap (λ p. is_done_waiting p t) past ∙ waits_on h.layout (past_in h) e (before legal) none t is;
}
  where
    e : Entry
    e = next_entry h (Caller c) cl

    past : past_in (with_call h (Caller c) cl) ≡ e ∷ past_in h
    past = newest h (with_call h (Caller c) cl) e refl

    before : IsLegal h.layout (past_in (with_call h (Caller c) cl)) → IsLegal h.layout (e ∷ past_in h)
    before legal = subst (IsLegal h.layout) past legal

-- ---- fires, and the end of a ticket by which no run waits

pub keeps_fired : (n : ℕ) (h : History) (c : CallerId) → Keeps h (fired n h c)
unfolding fired
keeps_fired zero h c = keeps_same h h refl
keeps_fired (suc n) h c =
    by (keeps_fired n next c) (takes h (Caller c) call.Fire) (is_nothing (fired_once h c).reply)
  where
    next : History
    next = with_call h (Caller c) call.Fire

    once : Keeps h next
    once = keeps_call h c call.Fire refl

    by : Keeps next (fired n next c) → (room last : Bool)
        → Keeps h (if not room then h else if last then next else fired n next c)
    by later false last = keeps_same h h refl
    by later true true = once
    by later true false = keeps_more h next (fired n next c) once later

keeps_then_fired : (t : Ticket) (h : History) → Keeps h (then_fired t h)
keeps_then_fired t h = by (is_drain t.call)
  where
    by : (b : Bool) → Keeps h (if b then fired h.layout.items h t.caller else h)
    by true = keeps_fired h.layout.items h t.caller
    by false = keeps_same h h refl

pub keeps_ended : (t : Ticket) (h : History) → Keeps h (ticket_ended t None h)
keeps_ended t h =
    let end = with_call h (Caller t.caller) (call.End t.number) in
    keeps_more h end (then_fired t end) (keeps_call h t.caller (call.End t.number) refl) (keeps_then_fired t end)

pub ended_longer : (t : Ticket) (h : History) → length h.entries < length (ticket_ended t None h).entries
ended_longer t h =
    let end = with_call h (Caller t.caller) (call.End t.number) in
    let more = length-append h.entries (next_entry h (Caller t.caller) (call.End t.number) ∷ []) in
    let later = (keeps_then_fired t end).longer in
    omega (arith, more, later)
