-- An item has two open queueings at most: its run, and after that one which hasn't started.
use Rattle.cmwq_refinement.specs.Common.{◌≡◌, ◌==◌, ◌<◌, ℕ, true, false, not, List, [], ◌∷◌, ◌++◌, length, map, filter}
use Rattle.cmwq_refinement.specs.Common.{Option, Some, None, option_to_list, refl, sym, ap, ◌∙◌, arith, inl, inr, ◌⊎◌}
use Rattle.cmwq_refinement.specs.Common.{⊎_elim, option_map, eqb-true, eq-eqb, and_parts, not-true, false_from_ne_true}
use Rattle.cmwq_refinement.specs.Common.{same_Some, Entry, Queueing, Start, Layout, item_at, starts, is_started}
use Rattle.cmwq_refinement.specs.Common.{is_open, item_run, queueings, has_number, is_live, still_open, opening, is_of}
use Rattle.cmwq_refinement.specs.Common.{is_unstarted, unstarted_queueing, IsLegal, survives, opening_number}
use Rattle.cmwq_refinement.specs.Common.{queueings_below, IsKnown, queueings_known, open_go_on, not_started_yet}
use Rattle.cmwq_refinement.specs.Common.{items_are_run, last_started, run_is, found_known, found_number, starts_listed}
use Rattle.cmwq_refinement.specs.Common.{runs_are_in_pools, unstarted_alone}
use Rattle.cmwq_refinement.proofs.Numbers.{In, RisesBy, filter_in, found, in_append, in_filter, in_option}
use Rattle.cmwq_refinement.proofs.Numbers.{number_of_queueing, of_in, or_from, or_right, rises_filter}
use Rattle.cmwq_refinement.proofs.Numbers.{true_from_ne_false}
use Rattle.cmwq_theory_steps.proofs.OneRun.{started_runs}
use Rattle.cmwq_refinement.specs.ItemNumbers.{item_numbers}
use Rattle.cmwq_refinement.proofs.QueueingSteps.{open_numbers_rise}

-- ---- of two open queueings of an item the older has started

-- what is opened hasn't started
opened_unstarted : (s : Layout) (past : List Entry) (e : Entry) → IsLegal s (e ∷ past)
    → is_started (e ∷ past) (length past) ≡ false
unfolding IsLegal
opened_unstarted s past e legal =
    or_from (starts (length past) e) (is_started past (length past)) (false_from_ne_true (starts (length past) e) (λ h.
    let st = starts_listed s past e (length past) legal h in
    absurd (omega (arith, (found_known past (length past) st.queueing st.found).older, st.number))))
    (not_started_yet s past (length past) legal.2 (omega arith))

-- an item's open queueing that hasn't started is its unstarted one
pub unstarted_one : (s : Layout) (past : List Entry) (i : ℕ) (x : Queueing) → IsLegal s past → In x (still_open past)
    → x.item.0 ≡ i → is_started past x.number ≡ false → unstarted_queueing past i ≡ Some x
unstarted_one s past i x legal here item idle =
    of_in (λ w. is_unstarted past i w ≡ true → unstarted_queueing past i ≡ Some w) (still_open past) x
    (unstarted_alone s past i legal) here (rw (eq-eqb x.item.0 i item, idle) refl)

pub one_of : (s : Layout) (past : List Entry) (x y : Queueing) → IsLegal s past → In x (still_open past)
    → In y (still_open past) → x.item.0 ≡ y.item.0 → is_started past x.number ≡ false → is_started past y.number ≡ false
    → x ≡ y
one_of s past x y legal hx hy item ux uy =
    same_Some x y (sym (unstarted_one s past y.item.0 x legal hx item ux)
    ∙ unstarted_one s past y.item.0 y legal hy refl uy)

open_older : (past : List Entry) (x : Queueing) → In x (still_open past) → x.number < length past
open_older past x i =
    of_in (λ y. y.number < length past) (queueings past) x (queueings_below past)
    (in_filter (is_live past) (queueings past) x i).0

-- what is open was so before, or is opened now
was_open : (s : Layout) (past : List Entry) (e : Entry) (x : Queueing) → IsLegal s (e ∷ past)
    → In x (still_open (e ∷ past)) → In x (still_open past) ⊎ (opening past e ≡ Some x)
was_open s past e x legal h =
    ⊎_elim (λ i. inl (in_filter (survives past e) (still_open past) x i).0) (λ i. inr (in_option (opening past e) x i))
    (in_append (filter (survives past e) (still_open past)) (option_to_list (opening past e)) x
    (rw (open_go_on s past e legal) at h))

pub older_started : (s : Layout) (past : List Entry) (x y : Queueing) → IsLegal s past → In x (still_open past)
    → In y (still_open past) → x.item.0 ≡ y.item.0 → x.number < y.number → is_started past x.number ≡ true
unfolding IsLegal queueings
older_started s [] x y legal hx hy item less = absurd hx
older_started s (e ∷ past) x y legal hx hy item less = ⊎_elim
    (λ x_was.
    ⊎_elim (λ y_was. or_right (starts x.number e) (is_started past x.number)
    (older_started s past x y legal.2 x_was y_was item less))
    (λ y_new. true_from_ne_false (is_started (e ∷ past) x.number) (λ idle.
    let number = opening_number past e y y_new in
    let same =
    one_of s (e ∷ past) x y legal hx hy item idle
    (ap (is_started (e ∷ past)) number ∙ opened_unstarted s past e legal) in
    absurd (omega (arith, ap number_of_queueing same)))) (was_open s past e y legal hy))
    (λ x_new. absurd (omega (arith, opening_number past e x x_new, open_older (e ∷ past) y hy)))
    (was_open s past e x legal hx)

-- ---- the run, and then the unstarted one

record AreItems (past : List Entry) (run : Option ℕ) (new : Option Queueing) (xs : List Queueing) : Type 0 where
  rise : RisesBy number_of_queueing xs
  started_run : (x : Queueing) → In x xs → is_started past x.number ≡ true → run ≡ Some x.number
  unstarted_new : (x : Queueing) → In x xs → is_started past x.number ≡ false → new ≡ Some x
  run_open : (n : ℕ) → run ≡ Some n → (x : Queueing) × In x xs × (x.number ≡ n) × (is_started past n ≡ true)
  new_open : (x : Queueing) → new ≡ Some x → In x xs × (is_started past x.number ≡ false)
  older : (x y : Queueing) → In x xs → In y xs → x.number < y.number → is_started past x.number ≡ true

two_at_most : (past : List Entry) (run : Option ℕ) (new : Option Queueing) (xs : List Queueing)
    → AreItems past run new xs → map number_of_queueing xs ≡ option_to_list run
    ++ option_to_list (option_map number_of_queueing new)
two_at_most past None None [] k = refl
two_at_most past (Some n) new [] k = absurd (k.run_open n refl).1
two_at_most past None (Some y) [] k = absurd (k.new_open y refl).0
two_at_most past None None (x ∷ []) k = grind (arith, k.started_run x (inl refl), k.unstarted_new x (inl refl))
two_at_most past (Some n) None (x ∷ []) k = grind (arith, k.started_run x (inl refl), k.unstarted_new x (inl refl))
two_at_most past None (Some y) (x ∷ []) k = grind (arith, k.started_run x (inl refl), k.unstarted_new x (inl refl))
two_at_most past (Some n) (Some y) (x ∷ []) k = grind (arith, k.run_open n refl, k.new_open y refl)
two_at_most past run new (x ∷ y ∷ []) k =
    grind (
      arith,
      k.rise.0.0,
      k.started_run x (inl refl),
      k.older x y (inl refl) (inr (inl refl)),
      k.started_run y (inr (inl refl)),
      k.unstarted_new y (inr (inl refl)),
    )
two_at_most past run new (x ∷ y ∷ z ∷ zs) k =
    let first = k.started_run x (inl refl) (k.older x y (inl refl) (inr (inl refl)) k.rise.0.0) in
    let second = k.started_run y (inr (inl refl)) (k.older y z (inr (inl refl)) (inr (inr (inl refl))) k.rise.1.0.0) in
    absurd (omega (arith, same_Some x.number y.number (sym first ∙ second), k.rise.0.0))

-- ---- of a history

abbrev run_number : Option Start → Option ℕ
run_number o = option_map (λ (start : Start). start.number) o

its_queueing : (s : Layout) (past : List Entry) (i n : ℕ) → IsLegal s past → run_number (item_run past i) ≡ Some n
    → (x : Queueing) × In x (filter (is_of i) (still_open past)) × (x.number ≡ n) × (is_started past n ≡ true)
its_queueing s past i n legal h = by (item_run past i) refl h
  where
    by : (o : Option Start) → item_run past i ≡ o → run_number o ≡ Some n
        → (x : Queueing) × In x (filter (is_of i) (still_open past)) × (x.number ≡ n) × (is_started past n ≡ true)
    by None is k = cc
    by (Some start) is k =
        let number : start.number ≡ n = same_Some start.number n k in
        let runs = items_are_run s past i start legal is in
        let r = runs_are_in_pools s past start.worker start.number legal runs.0 in
        let at : r.queueing.number ≡ start.number = found_number past start.number r.queueing r.found in
        let item : Some r.queueing.item.0 ≡ Some i = sym (found_known past start.number r.queueing r.found).item
        ∙ ap (item_at past) at ∙ runs.1 in
        let made = (found (has_number start.number) (queueings past) r.queueing r.found).0 in
        let open_here = filter_in (is_live past) (queueings past) r.queueing made r.live in (
          r.queueing,
          filter_in (is_of i) (still_open past) r.queueing open_here
              (eq-eqb r.queueing.item.0 i (same_Some r.queueing.item.0 i item)),
          at ∙ number,
          ap (is_started past) (sym number)
              ∙ last_started past start.worker start.number (run_is past start.worker start.number runs.0).last,
        )

are_items : (s : Layout) (past : List Entry) (i : ℕ) → IsLegal s past
    → AreItems past (run_number (item_run past i)) (unstarted_queueing past i) (filter (is_of i) (still_open past))
are_items s past i legal = record {
  rise = rises_filter number_of_queueing (is_of i) (still_open past) (open_numbers_rise past);
  started_run = λ x h started.
      let k = its x h in
      let live = in_filter (is_live past) (queueings past) x k.0 in
      let known = (of_in (IsKnown past) (queueings past) x (queueings_known past) live.0).item ∙ ap Some k.1 in
      started_runs s past i x.number legal known started (ap (λ j. is_open past j x.number) (sym k.1) ∙ live.1);
  unstarted_new = λ x h idle. unstarted_one s past i x legal (its x h).0 (its x h).1 idle;
  run_open = λ n h. its_queueing s past i n legal h;
  new_open = λ x h.
      let k = found (is_unstarted past i) (still_open past) x h in
      let both = and_parts (x.item.0 == i) (not (is_started past x.number)) k.1 in
      (filter_in (is_of i) (still_open past) x k.0 both.0, not-true (is_started past x.number) both.1);
  older = λ x y hx hy less. older_started s past x y legal (its x hx).0 (its y hy).0 ((its x hx).1 ∙ sym (its y hy).1)
      less;
}
  where
    its : (x : Queueing) → In x (filter (is_of i) (still_open past)) → In x (still_open past) × (x.item.0 ≡ i)
    its x h = let k = in_filter (is_of i) (still_open past) x h in (k.0, eqb-true x.item.0 i k.1)

pub run_then_unstarted : (s : Layout) (past : List Entry) (i : ℕ) → IsLegal s past
    → item_numbers past i ≡ option_to_list (run_number (item_run past i))
    ++ option_to_list (option_map number_of_queueing (unstarted_queueing past i))
run_then_unstarted s past i legal =
    two_at_most past (run_number (item_run past i)) (unstarted_queueing past i) (filter (is_of i) (still_open past))
    (are_items s past i legal)
