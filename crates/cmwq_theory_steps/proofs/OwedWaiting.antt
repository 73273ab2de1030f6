-- How many open queueings wait to start after one more entry.
use Rattle.cmwq_theory_steps.specs.Common.{◌≡◌, ◌+◌, ◌==◌, ℕ, true, false, cond, ◌&&◌, ◌||◌, not, List, [], ◌∷◌, filter}
use Rattle.cmwq_theory_steps.specs.Common.{count_by, Option, Some, None, option_to_list, refl, sym, ap, ap₂, ◌∙◌, arith}
use Rattle.cmwq_theory_steps.specs.Common.{is_some, AllByRecursion, option_map_or, eqb-true, eq-eqb, nat_tests}
use Rattle.cmwq_theory_steps.specs.Common.{sum_by-filter_both, Entry, Queueing, Layout, is_at, is_of_item}
use Rattle.cmwq_theory_steps.specs.Common.{number_started, starts, is_started, still_open, opening, has_number}
use Rattle.cmwq_theory_steps.specs.Common.{has_not_started, IsLegal, All_each, count_by-cons}
use Rattle.cmwq_theory_steps.proofs.Joined.{listed_live}
use Rattle.cmwq_theory_steps.proofs.Rising.{open_rise}
use Rattle.cmwq_theory_steps.specs.Endings.{survives, is_ended, ending}
use Rattle.cmwq_theory_steps.specs.Histories.{one}
use Rattle.cmwq_theory_steps.specs.RoomSteps.{waiting_count, ends_unstarted}
use Rattle.std.proofs.Common.{◌≢◌}
use Rattle.cmwq_lemmas.proofs.Lists.{count_append, filter_all}
use Rattle.cmwq_lemmas.proofs.Filters.{count_by-same, count_none, none_found}
use Rattle.cmwq_theory_steps.proofs.Points.{count_point}
use Rattle.cmwq_theory_steps.proofs.StartsListed.{starts_listed, starts_anew}
use Rattle.cmwq_theory_steps.proofs.Endings.{open_go_on}
use Rattle.cmwq_theory_steps.proofs.RunSteps.{no_end}
use Rattle.cmwq_theory_steps.proofs.WorklistSteps.{opening_inert}
use Rattle.cmwq_theory_steps.proofs.Ended.{few_numbered, open_found, one_ends}

-- ---- of those that were open

opened_counts : (s : Layout) (past : List Entry) (e : Entry) (o : Option Queueing)
    → AllByRecursion (λ x. is_started (e ∷ past) x.number ≡ false) (option_to_list o)
    → count_by (has_not_started (e ∷ past)) (option_to_list o) ≡ one (is_some o)
opened_counts s past e None h = refl
opened_counts s past e (Some x) h = count_by-cons (has_not_started (e ∷ past)) x [] ∙ ap (λ b. cond (not b) 1 0 + 0) h.0

waiting_after : (s : Layout) (past : List Entry) (e : Entry) → IsLegal s (e ∷ past)
    → waiting_count (e ∷ past)
    ≡ count_by (has_not_started (e ∷ past)) (filter (survives past e) (still_open past)) + one
    (is_some (opening past e))
waiting_after s past e legal =
    ap (count_by (has_not_started (e ∷ past))) (open_go_on s past e legal)
    ∙ count_append (has_not_started (e ∷ past)) (filter (survives past e) (still_open past))
    (option_to_list (opening past e))
    ∙ ap (λ n. count_by (has_not_started (e ∷ past)) (filter (survives past e) (still_open past)) + n)
    (opened_counts s past e (opening past e) (opening_inert s past e (opening past e) legal refl))

waiting_before : (s : Layout) (past : List Entry) (e : Entry) → IsLegal s (e ∷ past)
    → count_by (has_not_started past) (filter (survives past e) (still_open past)) + one (ends_unstarted past e)
    ≡ waiting_count past
waiting_before s past e legal =
    ap (λ n. count_by (has_not_started past) (filter (survives past e) (still_open past)) + n)
    (sym (ap (count_by (has_not_started past)) (one_ends s past e legal) ∙ single (ending past e)))
    ∙ sum_by-filter_both (survives past e) (is_ended past e) (λ x. refl) (λ x. cond (has_not_started past x) 1 0)
    (still_open past)
  where
    single : (o : Option Queueing) → count_by (has_not_started past) (option_to_list o)
        ≡ one (option_map_or (has_not_started past) o false)
    single None = refl
    single (Some x) = omega (arith, count_by-cons (has_not_started past) x [])

-- ---- an entry that starts nothing, and one that starts a queueing

none_started : (s : Layout) (past : List Entry) (e : Entry) → IsLegal s (e ∷ past) → number_started e.reply ≡ None
    → waiting_count (e ∷ past) + one (is_some (number_started e.reply)) + one (ends_unstarted past e)
    ≡ waiting_count past + one (is_some (opening past e))
none_started s past e legal none =
    let survivors = filter (survives past e) (still_open past) in
    let same =
    count_by-same (has_not_started (e ∷ past)) (has_not_started past) survivors
    (All_each _ survivors (λ x. ap (λ o. not (is_at o x.number || is_started past x.number)) none)) in
    omega (
      arith,
      waiting_after s past e legal,
      waiting_before s past e legal,
      same,
      ap (λ (o : Option ℕ). one (is_some o)) none,
    )

spares_all : (past : List Entry) (e : Entry) (n : ℕ) → number_started e.reply ≡ Some n → (x : Queueing)
    → survives past e x ≡ true
spares_all past e n h x =
    let none = no_end e.reply n h in
    ap₂ (λ a b. a && b) (ap₂ (λ a b. not (is_at a x.number) && not (is_at b x.number)) none.0 none.1)
    (ap (λ r. not (r && is_of_item x.item.0 e && not (is_started past x.number))) none.2)

number_there : (s : Layout) (past : List Entry) (e : Entry) (n : ℕ) → IsLegal s (e ∷ past)
    → number_started e.reply ≡ Some n → count_by (has_number n) (still_open past) ≡ 1
number_there s past e n legal h =
    let st = starts_listed s past e n legal (ap (λ o. is_at o n) h ∙ eq-eqb n n refl) in
    let there = open_found past n st.queueing st.found (listed_live s past st.worker.pool st.queueing st.listed) in
    let some : count_by (has_number n) (still_open past) ≢ 0 = λ zero. let none =
    none_found (has_number n) (still_open past) (count_none (has_number n) (still_open past) zero) in cc in
    omega (arith, few_numbered n (still_open past) (open_rise past))

one_started : (s : Layout) (past : List Entry) (e : Entry) (n : ℕ) → IsLegal s (e ∷ past)
    → number_started e.reply ≡ Some n
    → waiting_count (e ∷ past) + one (is_some (number_started e.reply)) + one (ends_unstarted past e)
    ≡ waiting_count past + one (is_some (opening past e))
one_started s past e n legal h =
    let all : count_by (has_not_started (e ∷ past)) (filter (survives past e) (still_open past))
    ≡ count_by (has_not_started (e ∷ past)) (still_open past)
    = ap (count_by (has_not_started (e ∷ past)))
    (filter_all (survives past e) (still_open past) (All_each _ (still_open past) (spares_all past e n h))) in
    let less =
    count_point (has_number n) (has_not_started past) (has_not_started (e ∷ past)) true false (still_open past)
    (number_there s past e n legal h) was is other in
    let none =
    ap (λ o. one (option_map_or (has_not_started past) o false))
    (none_found (is_ended past e) (still_open past)
    (All_each _ (still_open past) (λ x. ap not (spares_all past e n h x)))) in
    omega (arith, waiting_after s past e legal, ap (λ (o : Option ℕ). one (is_some o)) h)
  where
    starts_it : starts n e ≡ true
    starts_it = ap (λ o. is_at o n) h ∙ eq-eqb n n refl

    was : (x : Queueing) → has_number n x ≡ true → has_not_started past x ≡ true
    was x k = ap not (ap (is_started past) (eqb-true x.number n k) ∙ starts_anew s past e n legal starts_it)

    is : (x : Queueing) → has_number n x ≡ true → has_not_started (e ∷ past) x ≡ false
    is x k = ap (λ m. not (is_started (e ∷ past) m)) (eqb-true x.number n k)
        ∙ ap (λ b. not (b || is_started past n)) starts_it

    other : (x : Queueing) → has_number n x ≡ false → has_not_started past x ≡ has_not_started (e ∷ past) x
    other x k =
        let apart : (n == x.number) ≡ false = grind (arith, nat_tests) in
        sym (ap (λ o. not (is_at o x.number || is_started past x.number)) h
        ∙ ap (λ b. not (b || is_started past x.number)) apart)

pub waiting_counted : (s : Layout) (past : List Entry) (e : Entry) → IsLegal s (e ∷ past)
    → waiting_count (e ∷ past) + one (is_some (number_started e.reply)) + one (ends_unstarted past e)
    ≡ waiting_count past + one (is_some (opening past e))
waiting_counted s past e legal = at (number_started e.reply) refl
  where
    at : (o : Option ℕ) → number_started e.reply ≡ o
        → waiting_count (e ∷ past) + one (is_some (number_started e.reply)) + one (ends_unstarted past e)
        ≡ waiting_count past + one (is_some (opening past e))
    at None h = none_started s past e legal h
    at (Some n) h = one_started s past e n legal h
