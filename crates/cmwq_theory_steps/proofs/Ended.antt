-- What an entry ends is one queueing at most, and which.
use Rattle.cmwq_theory_steps.specs.Common.{if◌then◌else◌, Who, ap₂, option_or, option_and_then, is_some, item_fired}
use Rattle.cmwq_theory_steps.specs.Common.{◌||◌, AllByRecursion, ◌≡◌, ◌<◌, ◌≤◌, ℕ, Bool, true, false, List, [], ◌∷◌}
use Rattle.cmwq_theory_steps.specs.Common.{filter, find, count_by, Option, Some, None, option_to_list, refl, sym, ap}
use Rattle.cmwq_theory_steps.specs.Common.{◌∙◌, subst, arith, option_map, nat_tests, Reply, Entry, Queueing, Layout}
use Rattle.cmwq_theory_steps.specs.Common.{item_of, number_finished, number_cancelled, replaces, queueings, queueing_at}
use Rattle.cmwq_theory_steps.specs.Common.{has_number, is_live, still_open, is_unstarted, unstarted_queueing, IsLegal}
use Rattle.cmwq_theory_steps.specs.Common.{All_each, All_map, count_by-cons, count_by-none}
use Rattle.cmwq_theory_steps.specs.Rising.{IsRising}
use Rattle.cmwq_theory_steps.proofs.Rising.{open_rise}
use Rattle.cmwq_theory_steps.proofs.Joined.{active_live}
use Rattle.cmwq_theory_steps.proofs.Lemmas.{all_kept, count_by-same, filter_one, find-filter, find_same, none_found}
use Rattle.cmwq_model.specs.declared.reply.Reply.TheVariants as reply
use Rattle.cmwq_theory_steps.specs.Endings.{is_ended, ending, number_ended}
use Rattle.cmwq_theory_steps.specs.ItemQueueings.{ended_by}
use Rattle.cmwq_theory_steps.proofs.Activated.{find_holds}
use Rattle.cmwq_theory_steps.proofs.StartsListed.{IsFound, queueings_found}
use Rattle.cmwq_theory_steps.proofs.RunsActive.{found_number, run_is_active}
use Rattle.cmwq_theory_steps.proofs.Pending.{few_pending}
use Rattle.cmwq_theory_steps.proofs.Fresh.{finishes_run, takes_back_unstarted, unstarted_is}

-- ---- one queueing at most has a number

pub few_numbered : (n : ℕ) (xs : List Queueing) → IsRising xs → count_by (has_number n) xs ≤ 1
few_numbered n [] h = omega arith
few_numbered n (x ∷ xs) h =
    let none : x.number ≡ n → count_by (has_number n) xs ≡ 0 =
    λ is. count_by-none (has_number n) xs
    (All_map (λ y. x.number < y.number) _ xs (λ y less. grind (arith, nat_tests)) h.0) in
    grind (arith, nat_tests, count_by-cons (has_number n) x xs, few_numbered n xs h.1)

-- ---- what a reply ends

abbrev pub number_of : Queueing → ℕ
number_of x = x.number

-- one queueing at most: that which the reply tells, with the number that it tells
pub record Ends (past : List Entry) (e : Entry) : Type 0 where
  pub few : count_by (is_ended past e) (still_open past) ≤ 1
  pub told : ending past e ≡ ended_by past e.who (item_of e) e.reply
  pub number : option_map number_of (ending past e) ≡ number_ended past e

by_test : (past : List Entry) (e : Entry) (p : Queueing → Bool) → ((x : Queueing) → is_ended past e x ≡ p x)
    → count_by p (still_open past) ≤ 1 → find p (still_open past) ≡ ended_by past e.who (item_of e) e.reply
    → option_map number_of (ended_by past e.who (item_of e) e.reply) ≡ number_ended past e → Ends past e
by_test past e p same few found number =
    let each = All_each _ (still_open past) same in
    let told = find_same (is_ended past e) p (still_open past) each ∙ found in
    record {
      few = omega (arith, count_by-same (is_ended past e) p (still_open past) each);
      told = told;
      number =
          ap (option_map number_of) told ∙ number;
    }

-- an open queueing that is found by its number is the first of the open ones with it
pub open_found : (past : List Entry) (n : ℕ) (x : Queueing) → queueing_at past n ≡ Some x → is_live past x ≡ true
    → option_map (λ (y : Queueing). y.number) (find (has_number n) (still_open past)) ≡ Some n
open_found past n x found live =
    ap (option_map (λ (y : Queueing). y.number))
    (find-filter (has_number n) (is_live past) x (queueings past) found live) ∙ ap Some (found_number past n x found)

by_number : (past : List Entry) (e : Entry) (n : ℕ) (x : Queueing) → queueing_at past n ≡ Some x → is_live past x ≡ true
    → ((y : Queueing) → is_ended past e y ≡ has_number n y) → ended_by past e.who (item_of e) e.reply ≡ Some x
    → number_ended past e ≡ Some n → Ends past e
by_number past e n x found live same told number =
    by_test past e (has_number n) same (few_numbered n (still_open past) (open_rise past))
    (find-filter (has_number n) (is_live past) x (queueings past) found live ∙ sym told)
    (ap (option_map number_of) told ∙ ap Some (found_number past n x found) ∙ sym number)

-- what is taken back or put anew ends the item's unstarted queueing, and nothing else ends any but what is finished
told_by : (past : List Entry) (who : Who) (o : Option ℕ) (r : Reply) → number_finished r ≡ None
    → ended_by past who o r
    ≡ (if is_some (number_cancelled r) || replaces r then option_and_then (unstarted_queueing past) o else None)
told_by past who o r h = grind arith

pub found_open : (past : List Entry) → AllByRecursion (IsFound past) (still_open past)
found_open past = all_kept (IsFound past) (is_live past) (queueings past) (queueings_found past)

pub found_unstarted : (past : List Entry) (i : ℕ) (x : Queueing) → unstarted_queueing past i ≡ Some x → IsFound past x
found_unstarted past i x h =
    (find_holds (IsFound past) (is_unstarted past i) (still_open past) x (found_open past) h).holds

ends_nothing : (past : List Entry) (e : Entry) → ((x : Queueing) → is_ended past e x ≡ false)
    → ended_by past e.who (item_of e) e.reply ≡ None → number_ended past e ≡ None → Ends past e
ends_nothing past e survives told number =
    let fails = All_each (λ (x : Queueing). false ≡ false) (still_open past) (λ x. refl) in
    by_test past e (λ x. false) survives
    (omega (arith, count_by-none (λ (x : Queueing). false) (still_open past) fails))
    (none_found (λ (x : Queueing). false) (still_open past) fails ∙ sym told)
    (ap (option_map number_of) told ∙ sym number)

ends : (s : Layout) (past : List Entry) (e : Entry) (f c o : Option ℕ) (r : Bool) → IsLegal s (e ∷ past)
    → number_finished e.reply ≡ f → number_cancelled e.reply ≡ c → item_of e ≡ o → replaces e.reply ≡ r → Ends past e
unfolding IsLegal
ends s past e (Some n) c o r legal hf hc ho hr =
    let f = finishes_run s past e n legal hf in
    let q = run_is_active s past f.worker n legal.2 f.is_run in
    let is : e.reply ≡ reply.Finished n = grind arith in
    let told = ap₂ (λ (w : Who) (a : Reply). ended_by past w (item_of e) a) f.by_worker is
    ∙ ap (option_and_then (queueing_at past)) f.is_run ∙ q.found in
    by_number past e n q.queueing q.found (active_live s past q.queueing q.active) (λ x. grind (arith, nat_tests)) told
    (grind arith)
ends s past e None (Some n) o r legal hf hc ho hr =
    let f = takes_back_unstarted s past e n legal hc in
    let found =
    subst (λ m. queueing_at past m ≡ Some f.queueing) f.number
    (found_unstarted past f.item f.queueing f.is_unstarted) in
    let kept : replaces e.reply ≡ false = grind arith in
    let item : item_of e ≡ Some f.item = ap (λ a. option_or a (item_fired e.reply)) f.is_item in
    let unstarted = f.is_unstarted in
    let told = told_by past e.who (item_of e) e.reply hf in
    by_number past e n f.queueing found (unstarted_is past f.item f.queueing f.is_unstarted).live
    (λ x. grind (arith, nat_tests)) (grind arith) (grind arith)
ends s past e None None (Some i) true legal hf hc ho hr =
    let told = told_by past e.who (item_of e) e.reply hf in
    by_test past e (is_unstarted past i) (λ x. grind (arith, nat_tests)) (omega (arith, few_pending s past i legal.2))
    (grind arith) (grind arith)
ends s past e None None o r legal hf hc ho hr = let told = told_by past e.who (item_of e) e.reply hf in
    ends_nothing past e (λ x. grind arith) (grind arith) (grind arith)

-- ---- the laws

pub ends_of : (s : Layout) (past : List Entry) (e : Entry) → IsLegal s (e ∷ past) → Ends past e
ends_of s past e legal =
    ends s past e (number_finished e.reply) (number_cancelled e.reply) (item_of e) (replaces e.reply) legal refl refl
    refl refl

pub one_ends : (s : Layout) (past : List Entry) (e : Entry) → IsLegal s (e ∷ past)
    → filter (is_ended past e) (still_open past) ≡ option_to_list (ending past e)
one_ends s past e legal = filter_one (is_ended past e) (still_open past) (ends_of s past e legal).few

pub ends_which : (s : Layout) (past : List Entry) (e : Entry) → IsLegal s (e ∷ past)
    → option_map (λ (x : Queueing). x.number) (ending past e) ≡ number_ended past e
ends_which s past e legal = (ends_of s past e legal).number
