-- What a step leaves of those who sleep, and how a monitor is a dispatch.
use Rattle.std.specs.Prelude.{◌⊎◌, ◌||◌}
use Rattle.std.proofs.Common.{⊎_elim}
use Rattle.cmwq_monitor.specs.Common.{◌≡◌, ℕ, Bool, true, false, true≢false, Some, refl, ap, sym, ◌∙◌, subst, inl, inr}
use Rattle.cmwq_monitor.specs.Common.{Who, Caller, Worker, Entry, Layout, History, ◌&&◌}
use Rattle.cmwq_model.specs.declared.id.CallerId.{CallerId}
use Rattle.cmwq_model.specs.declared.id.WorkerId.{WorkerId}
use Rattle.cmwq_model.specs.declared.record.Ticket.{Ticket}
use Rattle.cmwq_dispatch.specs.Asleep.{Asleep, NobodySleeps, Rests, SleepOn, Waits}
use Rattle.cmwq_dispatch.specs.Dispatched.{Dispatched, FallsAsleep, MayEnter, SameButAsleep, dispatched_of, is_end}
use Rattle.cmwq_dispatch.specs.Dispatched as dispatch
use Rattle.cmwq_dispatch.specs.declared.dispatch.Sleep.{Sleep}
use Rattle.cmwq_dispatch.specs.declared.dispatch.Sleep.TheVariants as sleep
use Rattle.cmwq_model.specs.Prelude.{ticket_of}
use Rattle.cmwq_dispatch.specs.Naming.{NamesAll, NamesMore, names_journal}
use Rattle.cmwq_dispatch.specs.declared.wakes.Wakes.{Wakes}
use Rattle.cmwq_dispatch.proofs.Cared.{all_named, sleep_same}
use Rattle.cmwq_dispatch.proofs.OneNamed.{names_more}
use Rattle.cmwq_monitor.specs.Sleeping.{RestsUntil, WaitsFor}
use Rattle.cmwq_monitor.specs.Held.{GoesOn, Held, IsOpenTo, SleepersGoOn, dispatched, held_of, history_of, is_over}
use Rattle.cmwq_monitor.specs.Held.{is_shut_to}
use Rattle.cmwq_waits.specs.Begun.{is_lent}
use Rattle.cmwq_monitor.specs.Participants.{is_caller}

-- ---- a monitor is a dispatch

pub history_is : (s : Layout) (h : History) → h.layout ≡ s → h.room ≡ s.room → history_of s h.entries ≡ h
history_is s h layout room =
    subst (λ (l : Layout). h.room ≡ l.room → history_of l h.entries ≡ h) layout
    (λ same. ap (λ n. record { layout = h.layout; room = n; entries = h.entries }) (sym same)) room

pub dispatch_is : (s : Layout) (d : Dispatched) (given keeps : ℕ) (sleeps : Bool) → d.history.layout ≡ s
    → d.history.room ≡ s.room → dispatched s (held_of d given keeps sleeps) ≡ d
dispatch_is s d given keeps sleeps layout room =
    ap (λ (h : History). dispatched_of h d.closed d.failed d.crowded d.firing d.first_lent d.asleep)
    (history_is s d.history layout room)

-- ---- who may make an entry

closed_then : (c f a r l : Bool) → (c || l) ≡ false → f ≡ false → (f || (c && a && r)) ≡ true → ⊥
closed_then false false a r l shut lives over = true≢false (sym over)
closed_then true f a r l shut lives over = true≢false shut
closed_then false true a r l shut lives over = true≢false lives

pub open_may_enter : (s : Layout) (h : Held) (e : Entry) → IsOpenTo h e.who → MayEnter (dispatched s h) e
open_may_enter s h e taken = (taken.0, λ c over who. absurd (at c over who))
  where
    at : (c : CallerId) → is_over s h ≡ true → e.who ≡ Caller c → ⊥
    at c over who =
        let shut : (h.closed || is_lent h.first_lent (Caller c)) ≡ false = ap (is_shut_to h) (sym who) ∙ taken.1 in
        closed_then h.closed h.failed _ _ (is_lent h.first_lent (Caller c)) shut taken.0 over

pub lives_may_enter : (s : Layout) (h : Held) (e : Entry) → h.failed ≡ false
    → (is_caller e.who && is_over s h) ≡ false → MayEnter (dispatched s h) e
lives_may_enter s h e lives goes_on = (
  lives,
  λ c over who.
      absurd (true≢false (sym over ∙ (ap (λ w. is_caller w && is_over s h) (sym who) ∙ goes_on))),
)

-- ---- whoever sleeps

pub go_on_same : (who : Who) (h : Held) (w : Wakes) → SleepersGoOn who h h w w
go_on_same who h w = record {
  waiting = sleep_same who h.asleep w;
  for_space = λ c. inl c;
  writer = λ c. inl c;
}

pub everybody_named : (who : Who) (old new : Held) (before after : Wakes) → NobodySleeps new.asleep → NamesAll after
    → NamesMore before after → SleepersGoOn who old new before after
everybody_named who old new before after nobody all more = record {
  waiting = all_named who old.asleep new.asleep before after nobody all more;
  for_space = λ c. inr all;
  writer = λ c. inr all.journal;
}

names_all_more : (u w : Wakes) → NamesAll u → NamesMore u w → NamesAll w
names_all_more u w all more = record {
  callers = λ c. more.callers c (all.callers c);
  workers = λ v. more.workers v (all.workers v);
  journal = more.journal all.journal;
  completions = more.completions all.completions;
}

sleep_on_more : (who : Who) (a b c : Asleep) (u v w : Wakes) → SleepOn who a b u v → SleepOn who b c v w
    → SleepOn who a c u w
sleep_on_more who a b c u v w h k = record {
  callers = λ t is. ⊎_elim (k.callers t) (λ named. inr (k.named.callers t.caller.0 named)) (h.callers t is);
  workers = λ x is. ⊎_elim (k.workers x) (λ r. inr (⊎_elim (λ named. inl (k.named.workers x named)) (λ o. inr o) r))
      (h.workers x is);
  no_more_callers = λ t is. h.no_more_callers t (k.no_more_callers t is);
  no_more_workers = λ x is. h.no_more_workers x (k.no_more_workers x is);
  named = names_more u v w h.named k.named;
}

-- one step after another, by the same one
pub go_on_more : (who : Who) (a b c : Held) (u v w : Wakes) → SleepersGoOn who a b u v → SleepersGoOn who b c v w
    → SleepersGoOn who a c u w
go_on_more who a b c u v w h k = record {
  waiting = sleep_on_more who a.asleep b.asleep c.asleep u v w h.waiting k.waiting;
  for_space = λ is. ⊎_elim k.for_space (λ all. inr (names_all_more v w all k.waiting.named)) (h.for_space is);
  writer = λ is. ⊎_elim k.writer (λ named. inr (k.waiting.named.journal named)) (h.writer is);
}

-- ---- a step of the dispatch, after which the one who writes the history down sleeps on or is named

sleep_on_named : (who : Who) (a b : Asleep) (u v w : Wakes) → SleepOn who a b u v → NamesMore v w → SleepOn who a b u w
sleep_on_named who a b u v w h more = record {
  callers = λ t is. ⊎_elim (λ r. inl r) (λ named. inr (more.callers t.caller.0 named)) (h.callers t is);
  workers = λ x is. ⊎_elim (λ r. inl r)
      (λ r. inr (⊎_elim (λ named. inl (more.workers x named)) (λ o. inr o) r)) (h.workers x is);
  no_more_callers = h.no_more_callers;
  no_more_workers = h.no_more_workers;
  named = names_more u v w h.named more;
}

pub steps_on : (who : Who) (old new : Held) (u v w : Wakes) → SleepOn who old.asleep new.asleep u v → NamesMore v w
    → new.crowded ≡ old.crowded
    → (old.writer_sleeps ≡ true → (new.writer_sleeps ≡ true) ⊎ (names_journal w ≡ true))
    → SleepersGoOn who old new u w
steps_on who old new u v w on more crowded writer = record {
  waiting = sleep_on_named who old.asleep new.asleep u v w on more;
  for_space = λ is. inl (crowded ∙ is);
  writer = writer;
}

-- ---- the rest of a monitor

pub goes_on_same : (h : Held) → GoesOn h h
goes_on_same h =
    record {
      closed = refl;
      failed = refl;
      firing = refl;
      crowded = refl;
      first_lent = refl;
      given = refl;
      keeps = refl;
    }

pub goes_on_more : (a b c : Held) → GoesOn a b → GoesOn b c → GoesOn a c
goes_on_more a b c h k = record {
  closed = k.closed ∙ h.closed;
  failed = k.failed ∙ h.failed;
  firing = k.firing ∙ h.firing;
  crowded = k.crowded ∙ h.crowded;
  first_lent = k.first_lent ∙ h.first_lent;
  given = k.given ∙ h.given;
  keeps = k.keeps ∙ h.keeps;
}

-- ---- one that has nothing to do

held_but_asleep : (d new : Dispatched) (given keeps : ℕ) (writer : Bool) → SameButAsleep d new
    → held_of new given keeps writer ≡ record (held_of d given keeps writer) { asleep = new.asleep }
held_but_asleep d new given keeps writer same =
    rw (same.history, same.closed, same.failed, same.crowded, same.firing, same.first_lent) refl

over_is : (s : Layout) (d : Dispatched) (given keeps : ℕ) (writer : Bool) → d.history.layout ≡ s
    → d.history.room ≡ s.room → dispatch.is_over d ≡ true → is_over s (held_of d given keeps writer) ≡ true
over_is s d given keeps writer layout room over =
    ap dispatch.is_over (dispatch_is s d given keeps writer layout room) ∙ over

-- a caller whose wait is not ready
pub waits_for_it : (s : Layout) (d new : Dispatched) (given keeps : ℕ) (writer : Bool) (c : CallerId) (n : ℕ)
    (t : Ticket) (r : Sleep) → d.history.layout ≡ s → d.history.room ≡ s.room
    → ticket_of (dispatch.past_now d) (Caller c) n ≡ Some t → FallsAsleep (Waits t) d r new
    → WaitsFor s (held_of d given keeps writer) (Caller c) n r (held_of new given keeps writer)
waits_for_it s d new given keeps writer c n t sleep.Sleeps layout room of falls =
    (t, of, held_but_asleep d new given keeps writer falls.0, falls.1)
waits_for_it s d new given keeps writer c n t sleep.LooksAgain layout room of falls =
    ap (λ e. held_of e given keeps writer) falls
waits_for_it s d new given keeps writer c n t sleep.Over layout room of falls =
    (ap (λ e. held_of e given keeps writer) falls.0, inl (over_is s d given keeps writer layout room falls.1))

-- a worker that would start nothing
pub rests_until : (s : Layout) (d new : Dispatched) (given keeps : ℕ) (writer : Bool) (w : WorkerId) (r : Sleep)
    → d.history.layout ≡ s → d.history.room ≡ s.room → FallsAsleep (Rests w) d r new
    → RestsUntil s (held_of d given keeps writer) (Worker w) r (held_of new given keeps writer)
rests_until s d new given keeps writer w sleep.Sleeps layout room falls =
    (held_but_asleep d new given keeps writer falls.0, falls.1)
rests_until s d new given keeps writer w sleep.LooksAgain layout room falls =
    ap (λ e. held_of e given keeps writer) falls
rests_until s d new given keeps writer w sleep.Over layout room falls =
    (ap (λ e. held_of e given keeps writer) falls.0, over_is s d given keeps writer layout room falls.1)
