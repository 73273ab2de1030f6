-- A step, and then the ends of the tickets that were left: what it makes of the core, and who sleeps.
use Rattle.std.specs.Prelude.{◌≡◌, ◌⊎◌, ◌<◌, ◌≤◌, ℕ, Bool, true, false, Option, Some, None, List, length, nat_lt}
use Rattle.std.specs.Prelude.{Err, Ok, Result, slice_set}
use Rattle.std.proofs.Common.{refl, sym, ap, ◌∙◌, subst, arith, ⊎_elim, inl, inr}
use Rattle.std.proofs.lemmas.Bool.Decides.{nat_tests}
use Rattle.cmwq_core.specs.History.{History, past_in}
use Rattle.cmwq_dispatch.specs.Asleep.{Asleep, SleepOn}
use Rattle.cmwq_dispatch.specs.Dispatched.{Dispatched, past_now}
use Rattle.cmwq_dispatch.specs.Naming.{NamesMore, names_completions}
use Rattle.cmwq_dispatch.specs.declared.wakes.Wakes.{Wakes}
use Rattle.cmwq_dispatch.proofs.OneNamed.{names_same}
use Rattle.cmwq_model.specs.Prelude.{IsLegal, is_drain}
use Rattle.cmwq_model.specs.declared.call.Call.{Call}
use Rattle.cmwq_model.specs.declared.id.CallerId.{CallerId}
use Rattle.cmwq_model.specs.declared.id.Who.{Who}
use Rattle.cmwq_model.specs.declared.id.Who.TheVariants.{Caller, Worker}
use Rattle.cmwq_model.specs.declared.id.WorkerId.{WorkerId}
use Rattle.cmwq_model.specs.declared.record.Ticket.{Ticket}
use Rattle.cmwq_board.specs.Boarded.{Boarded, layout_of, past_of_board, with_asleep}
use Rattle.cmwq_board.specs.Lent.{EndsTicketOf, unended_drains}
use Rattle.cmwq_board.specs.Machine.{GoesOn, RisesFirst, Stepped, bare, cleared, drains_in, ended_left, freed, made}
use Rattle.cmwq_board.specs.Machine.{stepped, ticket_ended, unless}
use Rattle.cmwq_board.specs.NewsAfter.{after_left}
use Rattle.cmwq_board.specs.Steps.{FinishesRun, Makes, MayRetire, with_dispatch}
use Rattle.cmwq_board.specs.Waits.{Clears, EndsBy, EndsFirst, EndsLeft, IsAwakeThen, IsLeft, MayFire, TellsTime}
use Rattle.cmwq_board.specs.Waits.{place_of}
use Rattle.cmwq_board.specs.declared.board.Finish.{Finish}
use Rattle.cmwq_board.specs.declared.lending.Lending.TheVariants.{Free}
use Rattle.cmwq_board.specs.declared.news.News.{News}
use Rattle.cmwq_board.specs.Waits.EndsLeft.{more, nothing}
use Rattle.cmwq_board.proofs.Cleared.{first_cleared, full_cleared, none_cleared}
use Rattle.cmwq_board.proofs.Cores.{on_board}
use Rattle.cmwq_board.proofs.Ends.{ended_longer, keeps_ended}
use Rattle.cmwq_board.proofs.Sleepers.{sleep_on_more}

-- ---- who sleeps

-- nobody falls asleep or rises, and more are named
pub sleep_names : (who : Who) (a : Asleep) (u v : Wakes) → NamesMore u v → SleepOn who a a u v
sleep_names who a u v names = record {
  callers = λ t is. inl is;
  workers = λ w is. inl is;
  no_more_callers = λ t is. is;
  no_more_workers = λ w is. is;
  named = names;
}

pub sleep_same : (who : Who) (a b : Asleep) (u v : Wakes) → b ≡ a → v ≡ u → SleepOn who a b u v
sleep_same who a b u v same none =
    subst (λ x. SleepOn who a x u v) (sym same)
    (subst (λ x. SleepOn who a a u x) (sym none) (sleep_names who a u u (names_same u)))

-- a caller's step lets no worker rise by itself
pub sleep_caller : (who : Who) (c : CallerId) (a b : Asleep) (u v : Wakes) → SleepOn (Caller c) a b u v
    → SleepOn who a b u v
sleep_caller who c a b u v is = record {
  callers = is.callers;
  workers = λ w rests. ⊎_elim (λ on. inl on) (λ r. inr (⊎_elim (λ named. inl named) (λ e. cc) r)) (is.workers w rests);
  no_more_callers = is.no_more_callers;
  no_more_workers = is.no_more_workers;
  named = is.named;
}

sleep_fires : (who : Who) (b : Bool) (c : CallerId) (d n : Dispatched) (u v : Wakes) → MayFire b c d n u v
    → SleepOn who d.asleep n.asleep u v
sleep_fires who true c d n u v is = sleep_caller who c d.asleep n.asleep u v is.named
sleep_fires who false c d n u v is =
    sleep_same who d.asleep n.asleep u v (ap (λ (x : Dispatched). x.asleep) is.0) is.1

sleep_tells : (who : Who) (a : Asleep) (b : Bool) (u v : Wakes) → TellsTime b u v → SleepOn who a a u v
sleep_tells who a true u v is = sleep_names who a u v is.1
sleep_tells who a false u v is = sleep_same who a a u v refl is

-- the end of a ticket that was left
sleep_end : (who : Who) (t : Ticket) (lent : List _) (news : News) (a b : Boarded) (u v : Wakes)
    → EndsBy t None lent news a b u v → SleepOn who a.dispatch.asleep b.dispatch.asleep u v
sleep_end who t lent news a b u v is =
    let e = is.ends in
    sleep_on_more who a.dispatch.asleep e.ended.asleep b.dispatch.asleep u e.then_ended v
    (sleep_caller who t.caller a.dispatch.asleep e.ended.asleep u e.then_ended e.ends.named)
    (sleep_on_more who e.ended.asleep e.fired.asleep b.dispatch.asleep e.then_ended e.then_fired v
    (sleep_fires who (is_drain t.call) t.caller e.ended e.fired e.then_ended e.then_fired e.fires)
    (sleep_on_more who e.fired.asleep is.ended.asleep b.dispatch.asleep e.then_fired is.then_ended v
    (sleep_same who e.fired.asleep is.ended.asleep e.then_fired is.then_ended
    (ap (λ (x : Dispatched). x.asleep) e.wakes.0) e.wakes.1)
    (sleep_on_more who is.ended.asleep b.dispatch.asleep b.dispatch.asleep is.then_ended is.then_settled v
    (is.settles.named who)
    (sleep_tells who b.dispatch.asleep (is_drain t.call) is.then_settled v is.tells))))

-- ---- who keeps the time

-- as many drains are unended as before
pub not_fewer : {A : Type 0} (m n : ℕ) → n ≡ m → nat_lt n m ≡ true → A
not_fewer m n same less = absurd (grind (arith, nat_tests))

pub goes_same : (who : Who) (a : Boarded) (u : Wakes) → GoesOn who a a u u
goes_same who a u = record {
  sleepers = sleep_names who a.dispatch.asleep u u (names_same u);
  time = λ less. absurd (grind (arith, nat_tests));
}

fewer : (a b c : ℕ) → nat_lt c a ≡ true → (nat_lt c b ≡ true) ⊎ (nat_lt b a ≡ true)
fewer a b c less = by (nat_lt c b) refl
  where
    by : (x : Bool) → nat_lt c b ≡ x → (nat_lt c b ≡ true) ⊎ (nat_lt b a ≡ true)
    by true is = inl is
    by false is = inr (grind (arith, nat_tests))

pub goes_more : (who : Who) (a b c : Boarded) (u v w : Wakes) → GoesOn who a b u v → GoesOn who b c v w
    → GoesOn who a c u w
goes_more who a b c u v w one next = record {
  sleepers = sleep_on_more who a.dispatch.asleep b.dispatch.asleep c.dispatch.asleep u v w one.sleepers next.sleepers;
  time = λ less. ⊎_elim next.time (λ before. next.sleepers.named.completions (one.time before))
      (fewer (drains_in a) (drains_in b) (drains_in c) less);
}

told : (b : Bool) (m n : ℕ) (u v : Wakes) → TellsTime b u v → (b ≡ false → n ≡ m) → nat_lt n m ≡ true
    → names_completions v ≡ true
told true m n u v is same less = is.0
told false m n u v is same less = let e = same refl in absurd (grind (arith, nat_tests))

goes_first : (who : Who) (a b : Boarded) (u v : Wakes) → EndsFirst a b u v → GoesOn who a b u v
goes_first who a b u v is = record {
  sleepers = sleep_end who is.ticket a.lent (after_left is.ticket.call a.news) a b u v is.ends;
  time = told (is_drain is.ticket.call) (drains_in a) (drains_in b) is.ends.then_settled v is.ends.tells is.drains;
}

goes_left : (who : Who) (a b : Boarded) (u v : Wakes) → EndsLeft a b u v → GoesOn who a b u v
goes_left who a b u v (nothing x w) = goes_same who x w
goes_left who a b u v (more x y z p q r left first) =
    goes_more who x y z p q r (goes_left who x y p q left) (goes_first who y z q r first)

pub goes_clear : (who : Who) (a b : Boarded) (u v : Wakes) → Clears a b u v → GoesOn who a b u v
goes_clear who a b u v is = goes_left who a b u v is.ends

-- ---- where no entry is made nobody is named

entries_in : Boarded → ℕ
entries_in b = length b.dispatch.history.entries

first_longer : (a b : Boarded) (u v : Wakes) → EndsFirst a b u v → entries_in a < entries_in b
unfolding entries_in
first_longer a b u v is =
    let longer = ended_longer is.ticket a.dispatch.history in
    let same = ap (λ (x : Boarded). length x.dispatch.history.entries)
    (on_board is.ticket None a.lent (after_left is.ticket.call a.news) a b u v is.ends) in
    omega (arith, longer, same)

left_longer : (a b : Boarded) (u v : Wakes) → EndsLeft a b u v → entries_in a ≤ entries_in b
left_longer a b u v (nothing x w) = omega arith
left_longer a b u v (more x y z p q r left first) =
    let before = left_longer x y p q left in
    let less = first_longer y z q r first in
    omega (arith, before, less)

left_quiet : (a b : Boarded) (u v : Wakes) → EndsLeft a b u v → entries_in b ≡ entries_in a → v ≡ u
left_quiet a b u v (nothing x w) same = refl
left_quiet a b u v (more x y z p q r left first) same =
    let before = left_longer x y p q left in
    let less = first_longer y z q r first in
    absurd (omega (arith, before, less, same))

pub clear_quiet : (a b : Boarded) (u v : Wakes) → Clears a b u v → b.dispatch.history ≡ a.dispatch.history → v ≡ u
unfolding entries_in
clear_quiet a b u v is same = left_quiet a b u v is.ends (ap (λ (h : History). length h.entries) same)

-- ---- the core

record IsCleared (a b : Boarded) : Type 0 where
  legal : IsLegal (layout_of a) (past_of_board a)
  same : cleared (bare a) ≡ cleared (bare b)

first_core : (a b : Boarded) (u v : Wakes) → EndsFirst a b u v → IsLegal (layout_of b) (past_of_board b)
    → IsCleared a b
first_core a b u v is legal =
    let t = is.ticket in
    let core : bare b ≡ ended_left t (bare a) =
    on_board t None a.lent (after_left t.call a.news) a b u v is.ends in
    let history : b.dispatch.history ≡ ticket_ended t None a.dispatch.history =
    ap (λ (x : Boarded). x.dispatch.history) core in
    let after = subst (λ (h : History). IsLegal h.layout (past_in h)) history legal in
    record {
      legal = (keeps_ended t a.dispatch.history).legal after;
      same = first_cleared (bare a) is.place t after
          (subst (λ (h : History). EndsTicketOf t (past_of_board a) (past_in h)) history is.tickets) is.space is.first
          is.ready
          ∙ ap cleared (sym core);
    }

all_left : (a b : Boarded) (u v : Wakes) → EndsLeft a b u v → IsLegal (layout_of b) (past_of_board b)
    → IsCleared a b
all_left a b u v (nothing x w) legal = record { legal = legal; same = refl }
all_left a b u v (more x y z p q r left first) legal =
    let next = first_core y z q r first legal in
    let before = all_left x y p q left next.legal in
    record { legal = before.legal; same = before.same ∙ next.same }

pub clear_core : (a b : Boarded) (u v : Wakes) → Clears a b u v → IsLegal (layout_of b) (past_of_board b)
    → bare b ≡ cleared (bare a)
clear_core a b u v is legal =
    sym ((all_left a b u v is.ends legal).same ∙ ⊎_elim (none_cleared (bare b)) (full_cleared (bare b)) is.clear)

-- ---- a call

pub made_core : (who : Who) (c : Call) (a b : Boarded) (u v : Wakes) → Makes who c a b u v
    → bare b ≡ made (bare a) who c
made_core who c a b u v is = ap bare is.1 ∙ ap (λ (d : Dispatched). bare (with_dispatch a d)) is.0.made

pub made_goes : (who : Who) (c : Call) (a b : Boarded) (u v : Wakes) → Makes who c a b u v
    → drains_in b ≡ drains_in a → GoesOn who a b u v
made_goes who c a b u v is same = record {
  sleepers = is.0.named;
  time = λ less. absurd (grind (arith, nat_tests));
}

-- its reply may be news
pub goes_told : (who : Who) (a b : Boarded) (news : News) (u v : Wakes) → GoesOn who a b u v
    → GoesOn who a (record b { news = news }) u v
goes_told who a b news u v is = record { sleepers = is.sleepers; time = is.time }

-- ---- a run that ends

sleep_retire : (w : WorkerId) (r : Bool) (d n : Dispatched) (u v : Wakes) → MayRetire d w r n u v
    → SleepOn (Worker w) d.asleep n.asleep u v
sleep_retire w true d n u v is = is.1.named
sleep_retire w false d n u v is =
    sleep_same (Worker w) d.asleep n.asleep u v (ap (λ (x : Dispatched). x.asleep) is.1) is.2

pub sleep_finish : (w : WorkerId) (f : Finish) (d n : Dispatched) (u v : Wakes) → FinishesRun w f d n u v
    → SleepOn (Worker w) d.asleep n.asleep u v
sleep_finish w f d n u v is =
    sleep_on_more (Worker w) d.asleep is.mid.asleep n.asleep u is.meanwhile v is.finish.named
    (sleep_retire w f.retired is.mid n is.meanwhile v is.retire)

-- ---- a wait that is left

pub left_core : (c : CallerId) (place : ℕ) (a b : Boarded) → IsAwakeThen c (IsLeft place b) a
    → place_of a c ≡ Some place → bare b ≡ freed (bare a) (place_of a c)
left_core c place a b is at =
    ap bare is.next
    ∙ ap (λ (x : Boarded). record x { lent = slice_set x.lent place Free }) (ap bare is.awakes.same)
    ∙ ap (freed (bare a)) (sym at)

-- only who sleeps, and what the lent callers do, has changed
pub goes_still : (who : Who) (a b : Boarded) (u : Wakes) → b.dispatch ≡ a.dispatch → GoesOn who a b u u
goes_still who a b u same = record {
  sleepers = sleep_same who a.dispatch.asleep b.dispatch.asleep u u (ap (λ (x : Dispatched). x.asleep) same) refl;
  time = λ less. let e : drains_in b ≡ drains_in a = ap (λ (x : Dispatched). unended_drains (past_now x)) same in
      absurd (grind (arith, nat_tests));
}

pub left_rises : (c : CallerId) (place : ℕ) (a b n : Boarded) (u v : Wakes) → IsAwakeThen c (IsLeft place b) a
    → GoesOn (Caller c) b n u v → (n.dispatch.history ≡ b.dispatch.history → v ≡ u) → RisesFirst c a n u v
left_rises c place a b n u v is goes quiet =
    let same : b.dispatch ≡ (with_asleep a is.awake.dispatch.asleep).dispatch =
    ap (λ (x : Boarded). x.dispatch) is.next ∙ ap (λ (x : Boarded). x.dispatch) is.awakes.same in
    record {
      awake = is.awake.dispatch.asleep;
      rises = is.awakes.awake;
      goes = goes_more (Caller c) (with_asleep a is.awake.dispatch.asleep) b n u u v
          (goes_still (Caller c) (with_asleep a is.awake.dispatch.asleep) b u same) goes;
      quiet = λ none. quiet (none ∙ ap (λ (x : Dispatched). x.history) (sym same));
    }

-- ---- a move without a fault

pub taken_core : {A E : Type 0} (o : Option E) (b : Boarded) (s : Stepped (Result A E)) → o ≡ None
    → s.core ≡ (unless o b s).core
taken_core o b s none = ap (λ x. (unless x b s).core) (sym none)

pub taken_outcome : {A E : Type 0} (o : Option E) (b : Boarded) (s : Stepped (Result A E)) → o ≡ None
    → s.outcome ≡ (unless o b s).outcome
taken_outcome o b s none = ap (λ x. (unless x b s).outcome) (sym none)

pub none_of_ok : {A E : Type 0} (o : Option E) (b : Boarded) (s : Stepped (Result A E)) (a : A)
    → Ok a ≡ (unless o b s).outcome → o ≡ None
none_of_ok None b s a is = refl
none_of_ok (Some f) b s a is = cc

pub some_of_err : {A E : Type 0} (o : Option E) (b c : Boarded) (a : A) (e : E)
    → Err e ≡ (unless o b (stepped c (Ok a))).outcome → o ≡ Some e
some_of_err None b c a e is = cc
some_of_err (Some f) b c a e is = cc
