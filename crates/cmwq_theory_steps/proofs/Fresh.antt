-- Numbers that replies speak of are those of older entries, so of a number that is still to come nothing was told.
use Rattle.cmwq_theory_steps.specs.Common.{is_finished, list_any, ◌≡◌, ◌+◌, ◌<◌, ◌≤◌, ℕ, true, false, ◌||◌, List, []}
use Rattle.cmwq_theory_steps.specs.Common.{◌∷◌, length, Option, Some, nat_lt, refl, ap₂, subst, arith, lt-ltb, eqb-true}
use Rattle.cmwq_theory_steps.specs.Common.{nat_tests, AllByRecursion, Entry, Queueing, Layout, is_at, number_started}
use Rattle.cmwq_theory_steps.specs.Common.{number_finished, number_cancelled, is_started, is_cancelled, is_open}
use Rattle.cmwq_theory_steps.specs.Common.{queueings, is_live, still_open, unstarted_queueing, is_unstarted, IsLegal}
use Rattle.cmwq_theory_steps.specs.Common.{All_map, All_filter}
use Rattle.cmwq_theory_steps.proofs.Entries.{IsKnown, queueings_known}
use Rattle.cmwq_theory_steps.proofs.Activated.{find_holds}
use Rattle.cmwq_theory_steps.proofs.ItemRuns.{run_is, started_older, starts_known}
use Rattle.cmwq_theory_steps.specs.Reasons.{FinishesRun, TakesBack}
use Rattle.cmwq_theory_steps.proofs.Causes.{cause_of}
use Rattle.cmwq_theory_steps.proofs.Reasons.{finish_reason, cancel_reason}

pub finishes_run : (s : Layout) (past : List Entry) (e : Entry) (n : ℕ) → IsLegal s (e ∷ past)
    → number_finished e.reply ≡ Some n → FinishesRun past e.who e.call n
finishes_run s past e n legal h = finish_reason s past e.who e.call e.reply n (cause_of s past e legal) h

pub takes_back_unstarted : (s : Layout) (past : List Entry) (e : Entry) (n : ℕ) → IsLegal s (e ∷ past)
    → number_cancelled e.reply ≡ Some n → TakesBack past e.call n
takes_back_unstarted s past e n legal h = cancel_reason s past e.who e.call e.reply n (cause_of s past e legal) h

-- what is found unstarted is open, known, of that item and not started
pub record IsWaiting (past : List Entry) (i : ℕ) (x : Queueing) : Type 0 where
  pub known : IsKnown past x
  pub live : is_live past x ≡ true
  pub item : x.item.0 ≡ i
  pub not_started : is_started past x.number ≡ false

pub record IsOpenOne (past : List Entry) (x : Queueing) : Type 0 where
  pub known : IsKnown past x
  pub live : is_live past x ≡ true

pub open_known : (past : List Entry) → AllByRecursion (λ x. IsOpenOne past x) (still_open past)
open_known past =
    All_filter (λ x. IsOpenOne past x) (is_live past) (queueings past)
    (All_map (IsKnown past) _ (queueings past) (λ x known live. record { known = known; live = live })
    (queueings_known past))

pub unstarted_is : (past : List Entry) (i : ℕ) (x : Queueing) → unstarted_queueing past i ≡ Some x → IsWaiting past i x
unstarted_is past i x found =
    let f = find_holds (IsOpenOne past) (is_unstarted past i) (still_open past) x (open_known past) found in
    record {
      known = f.holds.known;
      live = f.holds.live;
      item = eqb-true x.item.0 i (grind arith);
      not_started =
          grind arith;
    }

-- ---- numbers that replies speak of are older, so of a number that is still to come nothing was told

pub not_told : (o : Option ℕ) (n m : ℕ) → ((k : ℕ) → o ≡ Some k → k < m) → m ≤ n → is_at o n ≡ false
not_told o n m h less = grind (arith, nat_tests)

never_told : (told : Entry → Option ℕ)
    → ((s : Layout) (past : List Entry) (e : Entry) (k : ℕ) → IsLegal s (e ∷ past) → told e ≡ Some k → k < length past)
    → (s : Layout) (past : List Entry) (n : ℕ) → IsLegal s past → length past ≤ n + 1
    → list_any (λ e. is_at (told e) n) past ≡ false
unfolding IsLegal
never_told told older s [] n legal less = refl
never_told told older s (e ∷ past) n legal less =
    ap₂ (λ a b. a || b) (not_told (told e) n (length past) (λ k h. older s past e k legal h) (omega arith))
    (never_told told older s past n legal.2 (omega arith))

pub not_started_yet : (s : Layout) (past : List Entry) (n : ℕ) → IsLegal s past → length past ≤ n
    → is_started past n ≡ false
not_started_yet s past n legal less =
    never_told (λ e. number_started e.reply) (λ s past e k legal h. (starts_known s past e k legal h).older) s past n
    legal (omega arith)

not_cancelled_more : (s : Layout) (past : List Entry) (e : Entry) (i n : ℕ) → IsLegal s (e ∷ past) → length past ≤ n
    → is_cancelled past i n ≡ false → is_cancelled (e ∷ past) i n ≡ false
unfolding is_cancelled
not_cancelled_more s past e i n legal less earlier =
    let here =
    not_told (number_cancelled e.reply) n (length past) (λ k h. let f = takes_back_unstarted s past e k legal h in
    subst (λ m. m < length past) f.number (unstarted_is past f.item f.queueing f.is_unstarted).known.older) less in
    grind (arith, nat_tests)

not_cancelled_yet : (s : Layout) (past : List Entry) (i n : ℕ) → IsLegal s past → length past ≤ n + 1
    → is_cancelled past i n ≡ false
unfolding IsLegal is_cancelled
not_cancelled_yet s [] i n legal less = refl
not_cancelled_yet s (e ∷ past) i n legal less =
    not_cancelled_more s past e i n legal (omega arith) (not_cancelled_yet s past i n legal.2 (omega arith))

-- nor has the entry itself been ended at once
pub open_at_once : (s : Layout) (past : List Entry) (e : Entry) (i : ℕ) → IsLegal s (e ∷ past)
    → is_open (e ∷ past) i (length past) ≡ true
unfolding IsLegal
open_at_once s past e i legal =
    let young : nat_lt (length past) (length (e ∷ past)) ≡ true =
    lt-ltb (length past) (length (e ∷ past)) (omega arith) in
    let unfinished : is_finished (e ∷ past) (length past) ≡ false
    = never_told (λ e. number_finished e.reply) (λ s past e n legal h. let f = finishes_run s past e n legal h in
    started_older s past f.worker n legal.2 (run_is past f.worker n f.is_run).last) s (e ∷ past) (length past) legal
    (omega arith) in
    rw (young, unfinished, not_cancelled_yet s (e ∷ past) i (length past) legal (omega arith)) refl
