-- A caller that fires, time after time.
use Rattle.std.specs.Prelude.{◌≡◌, ◌<◌, ◌+◌, ◌-◌, ◌&&◌, ◌||◌, ◌==◌, ◌∷◌, [], ℕ, Bool, true, false, not, suc, zero}
use Rattle.std.specs.Prelude.{nat_lt}
use Rattle.std.specs.Prelude.{length}
use Rattle.std.proofs.lemmas.Bool.Decides.{nat_tests}
use Rattle.std.proofs.Common.{refl, sym, ap, ◌∙◌, subst, arith, length-append, true≢false}
use Rattle.cmwq_core.specs.History.{History, next_entry, takes, with_entry}
use Rattle.cmwq_dispatch.specs.Asleep.{SleepOn}
use Rattle.cmwq_dispatch.specs.Dispatched.{Dispatched, MayEnter, is_over, past_now}
use Rattle.cmwq_dispatch.specs.declared.wakes.Wakes.{Wakes}
use Rattle.cmwq_dispatch.proofs.Steady.{newest}
use Rattle.cmwq_model.specs.Prelude.{IsLegal, Layout, is_nothing, unended_tickets}
use Rattle.cmwq_model.specs.declared.call.Call.TheVariants as call
use Rattle.cmwq_model.specs.declared.entry.Entry.{Entry}
use Rattle.cmwq_model.specs.declared.id.CallerId.{CallerId}
use Rattle.cmwq_model.specs.declared.id.Who.TheVariants.{Caller}
use Rattle.cmwq_state.specs.Tails.{Tailed}
use Rattle.cmwq_board.specs.Lent.{SameTickets}
use Rattle.cmwq_board.specs.Fires.{fired_once}
unfoldable use Rattle.cmwq_board.specs.Fires.{fired}
use Rattle.cmwq_board.specs.Steps.{FiresDue, Stays, after_call, may_fire}
use Rattle.cmwq_board.proofs.Sleepers.{sleep_on_more}
use Rattle.cmwq_board.proofs.Tickets.{same_by_plain}
use Rattle.cmwq_theory_steps.proofs.TicketSteps.{unended_go_on}

-- ---- whoever may fire may make an entry

not_over : (f c a : Bool) (n : ℕ) → (not f && (not c || nat_lt 0 n)) ≡ true → (f || (c && a && (n == 0))) ≡ false
not_over true c a n may = absurd (true≢false (sym may))
not_over false false a n may = refl
not_over false true a zero may = absurd (true≢false (sym may))
not_over false true true (suc n) may = grind (arith, nat_tests)
not_over false true false (suc n) may = refl

pub fires_on : (d : Dispatched) → may_fire d ≡ true → is_over d ≡ false
fires_on d may = not_over d.failed d.closed _ d.firing may

lives : (f b : Bool) → (not f && b) ≡ true → f ≡ false
lives false b may = refl
lives true b may = absurd (true≢false (sym may))

pub firing_lives : (d : Dispatched) → may_fire d ≡ true → d.failed ≡ false
firing_lives d may = lives d.failed _ may

pub firing_enters : (d : Dispatched) (e : Entry) → may_fire d ≡ true → MayEnter d e
firing_enters d e may =
    (firing_lives d may, λ c over who. absurd (true≢false (sym over ∙ fires_on d may)))

-- ---- one fire, of which there may be so many more

pub fired_zero : (h : History) (c : CallerId) → fired zero h c ≡ h
unfolding fired
fired_zero h c = refl

pub fired_full : (n : ℕ) (h : History) (c : CallerId) → takes h (Caller c) call.Fire ≡ false → fired (suc n) h c ≡ h
unfolding fired
fired_full n h c full = rw full refl

pub fired_last : (n : ℕ) (h : History) (c : CallerId) → takes h (Caller c) call.Fire ≡ true
    → is_nothing (fired_once h c).reply ≡ true → fired (suc n) h c ≡ with_entry h (fired_once h c)
unfolding fired
fired_last n h c takes nothing = rw (takes, nothing) refl

pub fired_next : (n : ℕ) (h : History) (c : CallerId) → takes h (Caller c) call.Fire ≡ true
    → is_nothing (fired_once h c).reply ≡ false → fired (suc n) h c ≡ fired n (with_entry h (fired_once h c)) c
unfolding fired
fired_next n h c takes other = rw (takes, other) refl

-- ---- a loop of fires, of which so many are made

-- whatever is fired from now on leaves what is to be left
abbrev pub GoesOn : ℕ → ℕ → CallerId → History → History → Type 0
GoesOn k items c left now = (n : ℕ) → k + n ≡ items → fired n now c ≡ left

pub all_fired : (k items : ℕ) (c : CallerId) (left now : History) → k ≡ items → GoesOn k items c left now → now ≡ left
all_fired k items c left now e on = sym (fired_zero now c) ∙ on zero (omega (arith, e))

pub no_room : (k items : ℕ) (c : CallerId) (left now : History) → k < items → GoesOn k items c left now
    → takes now (Caller c) call.Fire ≡ false → now ≡ left
no_room k items c left now less on full =
    sym (fired_full (items - suc k) now c full) ∙ on (suc (items - suc k)) (omega (arith, less))

pub nothing_fired : (k items : ℕ) (c : CallerId) (left now next : History) → k < items → GoesOn k items c left now
    → takes now (Caller c) call.Fire ≡ true → is_nothing (fired_once now c).reply ≡ true
    → next ≡ with_entry now (fired_once now c) → next ≡ left
nothing_fired k items c left now next less on takes nothing made =
    made ∙ sym (fired_last (items - suc k) now c takes nothing)
    ∙ on (suc (items - suc k)) (omega (arith, less))

pub something_fired : (k items : ℕ) (c : CallerId) (left now next : History) → GoesOn k items c left now
    → takes now (Caller c) call.Fire ≡ true → is_nothing (fired_once now c).reply ≡ false
    → next ≡ with_entry now (fired_once now c) → GoesOn (k + 1) items c left next
something_fired k items c left now next on takes other made n e =
    ap (λ h. fired n h c) made ∙ sym (fired_next n now c takes other) ∙ on (suc n) (omega (arith, e))

-- so far
pub record HasFired (k : ℕ) (c : CallerId) (old now : Dispatched) (t u : Tailed Entry) (before after : Wakes)
    : Type 0 where
  pub fires : now ≡ record old { history = now.history; asleep = now.asleep }
  pub stays : Stays old now
  pub may : may_fire now ≡ true
  pub many : length now.history.entries ≡ length old.history.entries + k
  pub tail : u ≡ record t { all = now.history.entries }
  pub named : SleepOn (Caller c) old.asleep now.asleep before after
  pub tickets : SameTickets (past_now old) (past_now now)

-- once more
pub fired_more : (k : ℕ) (c : CallerId) (old now next : Dispatched) (t u v : Tailed Entry) (x y z : Wakes)
    → HasFired k c old now t u x y
    → next ≡ record (after_call now (Caller c) call.Fire) { asleep = next.asleep }
    → v ≡ record u { all = next.history.entries }
    → SleepOn (Caller c) now.asleep next.asleep y z → IsLegal next.history.layout (past_now next)
    → HasFired (k + 1) c old next t v x z
fired_more k c old now next t u v x y z so made tail named legal =
    let e = next_entry now.history (Caller c) call.Fire in
    let history : next.history ≡ with_entry now.history e = ap (λ (d : Dispatched). d.history) made in
    let past : past_now next ≡ e ∷ past_now now = newest now.history next.history e history in
    let layout : next.history.layout ≡ now.history.layout = ap (λ (h : History). h.layout) history in
    let legal_e : IsLegal now.history.layout (e ∷ past_now now) =
    subst (λ (s : Layout). IsLegal s (e ∷ past_now now)) layout (subst (IsLegal next.history.layout) past legal) in
    record {
      fires = made
          ∙ ap (λ (h : History). record now { history = h; asleep = next.asleep }) (sym history)
          ∙ ap (λ (d : Dispatched). record d { history = next.history; asleep = next.asleep }) so.fires;
      stays = record {
        layout = layout ∙ so.stays.layout;
        room = ap (λ (h : History). h.room) history ∙ so.stays.room;
        closed = ap (λ (d : Dispatched). d.closed) made ∙ so.stays.closed;
        failed = ap (λ (d : Dispatched). d.failed) made ∙ so.stays.failed;
        firing = ap (λ (d : Dispatched). d.firing) made ∙ so.stays.firing;
      };
      may = ap may_fire made ∙ so.may;
      many = omega (
        arith,
        so.many,
        ap (λ (h : History). length h.entries) history,
        length-append now.history.entries (e ∷ []),
      );
      tail = tail ∙ ap (λ (r : Tailed Entry). record r { all = next.history.entries }) so.tail;
      named = sleep_on_more (Caller c) old.asleep now.asleep next.asleep x y z so.named named;
      tickets = ap unended_tickets past
          ∙ same_by_plain now.history.layout (past_now now) (e ∷ past_now now) e
          (unended_go_on now.history.layout (past_now now) e legal_e) legal_e refl (λ n. refl) ∙ so.tickets;
    }

-- ---- all was fired

pub fires_all : (k : ℕ) (c : CallerId) (old now next : Dispatched) (t u : Tailed Entry) (x y z : Wakes)
    → HasFired k c old now t u x y → next ≡ now → z ≡ y
    → now.history ≡ fired old.history.layout.items old.history c → FiresDue c old next x z
fires_all k c old now next t u x y z so same nobody left = rw (same, nobody)
    (record {
      fires = so.fires ∙ ap (λ (h : History). record old { history = h; asleep = now.asleep }) left;
      named = so.named;
    })
